-- The transform back: the entries of a list, in bit-reversed order, are the remainders of the list whose transform it
-- is.
use Rattle.std.proofs.Common.{◌≡◌, ℕ, ◌+◌, ◌*◌, ◌%◌, ◌^◌, ◌<◌, List, length, ap, ◌∙◌, arith}
use Rattle.modular_word.specs.Congruence.{Congruent}
use Rattle.modular_word.specs.Inverses.{IsInverse}
use Rattle.modular_word.proofs.Congruence.{mod_mul, mod_of_eq, mod_refl, mod_trans}
use Rattle.modular_word.proofs.Powers.{pow-mul}
use Rattle.modular_word.proofs.Sums.{sum_below-same}
use Rattle.modular_transform.specs.Orders.{bits_reversed, IsReordered}
use Rattle.modular_transform.specs.Transforms.{transform}
use Rattle.modular_transform.proofs.BitReversal.{bits_reversed_below}
use Rattle.modular_plan_passes.specs.Plans.{numbers, constant, AreRemainders}
use Rattle.modular_plan_transforms.proofs.NaturalOrder.{number_reordered}

-- the transform in bit-reversed order is the remainders modulo X - c
pub remainders_reversed : (m g n bits : ℕ) (x y : ℕ → ℕ) → n ≡ 2 ^ bits
    → ((j : ℕ) → j < n → y j ≡ transform m g n x (bits_reversed bits j))
    → AreRemainders m g bits 0 n 1 x y
remainders_reversed m g n bits x y whole are = record {
  each = λ j i l first.
      let r = bits_reversed bits j in
      let place : j * 1 + i ≡ j = omega (arith, first) in
      let terms = sum_below-same n (λ k. x k * g ^ (k * r)) (λ k. x (k * 1 + i) * constant g bits (0 * n + j) ^ k)
      (λ k _. grind (arith, pow-mul g r k)) in
      ap y place ∙ are j l ∙ ap (λ v. v % m) terms;
}

-- the list new, in which the entries of old are in bit-reversed order, are the remainders of the list x of which old is
-- the transform
pub remainders_of_transform : {T : Type 0} (number : T → ℕ) (m g n bits : ℕ) (x : ℕ → ℕ) (old new : List T)
    → n ≡ 2 ^ bits → length old ≡ n → length new ≡ n → IsReordered (bits_reversed bits) old new
    → ((j : ℕ) → j < n → transform m g n x j ≡ numbers number old j % m)
    → AreRemainders m g bits 0 n 1 x (λ i. numbers number new i % m)
remainders_of_transform number m g n bits x old new whole len len_new reordered are =
    grind (arith, remainders_reversed, bits_reversed_below, number_reordered)

-- a number of blocks times an entry, times the inverse of the number
pub inverse_unscales : (m n part v : ℕ) → IsInverse m n part → (n * v * part) % m ≡ v % m
inverse_unscales m n part v inverse =
    let unit : Congruent m (n * part) 1 = record { same = inverse.one } in
    (mod_trans (mod_of_eq (omega arith)) (mod_trans (mod_mul unit (mod_refl v)) (mod_of_eq (omega arith)))).same
