-- Bounds that are multiples of the modulus.
use Rattle.std.proofs.Common.{◌≡◌, ℕ, ◌+◌, ◌*◌, ◌/◌, ◌%◌, sym, arith}
use Rattle.std.proofs.Math.Nat.{div-add-mod, add-mul-mod_self_right}
use Rattle.modular_word.specs.Congruence.{Congruent}
use Rattle.modular_word.proofs.Congruence.{mod_of_eq, mod_refl, mod_sym, mod_trans, mod_add, mod_mul}

pub multiple_is_none : {m : ℕ} (k bound : ℕ) → bound ≡ k * m → Congruent m bound 0
multiple_is_none {m} k bound is =
    let whole : bound ≡ 0 + k * m = omega (arith, is) in
    mod_trans (mod_of_eq whole) (record { same = add-mul-mod_self_right 0 k m })

-- a number that was reduced by a multiple
pub reduced_by_multiple : {m : ℕ} (a x bound : ℕ) → Congruent m bound 0 → a ≡ x % bound → Congruent m a x
reduced_by_multiple {m} a x bound none is =
    let parts : bound * (x / bound) + x % bound ≡ x = div-add-mod x bound in
    let rest : 0 * (x / bound) + x % bound ≡ a = omega (arith, is) in
    mod_sym (mod_trans (mod_of_eq (sym parts))
    (mod_trans (mod_add (mod_mul none (mod_refl (x / bound))) (mod_refl (x % bound))) (mod_of_eq rest)))
