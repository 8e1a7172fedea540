-- The square of the base, less m, has the same remainder and fits a double word.
use Rattle.std.proofs.Common.{◌≡◌, ℕ, ◌+◌, ◌-◌, ◌*◌, ◌%◌, ◌<◌, ap, sym, ◌∙◌, arith}
use Rattle.std.proofs.Math.Nat.{mod_self, add-mul-mod_self_left}
use Rattle.modular_word.proofs.Congruence.{mod_cancel}
use Rattle.modular_prim.proofs.reducer_word.AnyReducerWord.square_of_base.Goals as goal

-- a double word that is m less than the square of the base
square_less : (b m low high double : ℕ) → 0 < m → m < b → low < b → (low + m) % b ≡ 0 → high + 1 ≡ b
    → double ≡ low + b * high → double % m ≡ (b * b) % m
square_less b m low high double some below fits rest top e =
    let l : low ≡ b - m = grind (arith, mod_cancel, mod_self) in
    let h : b * (high + 1) ≡ b * b = ap (λ v. b * v) top in
    let whole : b * b ≡ double + m * 1 = omega arith in
    sym (ap (λ v. v % m) whole ∙ add-mul-mod_self_left _ _ _)

pub returns-clause-value : goal.returns-clause-value
returns-clause-value g c = grind (arith, square_less)
