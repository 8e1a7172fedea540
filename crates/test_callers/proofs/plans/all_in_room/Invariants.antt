use Rattle.std.proofs.Common.{ℕ, ◌*◌, ◌<◌, get_or}
use Rattle.test_callers.proofs.plans.all_in_room.Given as goal

-- the entries before this one are below the bound
abbrev pub invariant-entries : goal.invariant-entries
invariant-entries g l = (k : ℕ) → k < l.i → (d : _) → g.T.RingWord.number (get_or l.xs k d) < 4 * g.T.RingWord.number
    l.m.modulus
