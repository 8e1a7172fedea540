use Rattle.std.proofs.Common.{ℕ, ◌<◌, get_or}
use Rattle.test_rings.proofs.tests.plan_rows.all_below.Given as goal

-- the entries before this one are below the bound
abbrev pub invariant-entries : goal.invariant-entries
invariant-entries g l = (k : ℕ) → k < l.i → (d : _) → g.T.RingWord.number (get_or l.xs k d) < g.T.RingWord.number
    l.m.modulus
