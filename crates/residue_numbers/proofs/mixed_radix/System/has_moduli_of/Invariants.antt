use Rattle.std.proofs.Common.{◌≡◌, ℕ, ◌<◌, get_or, map}
use Rattle.residue_numbers.proofs.mixed_radix.System.has_moduli_of.Given as goal

-- the moduli so far are equal
abbrev pub invariant-moduli : goal.invariant-moduli
invariant-moduli g l =
    (i : ℕ) → i < l.place → get_or (map (λ r. g.R.Reducer.modulus r) l.reducers) i 0 ≡ get_or l.self.moduli.now i 0
