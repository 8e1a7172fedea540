-- The transform back by a table for as many words as a list has, or more.
use Rattle.std.proofs.Common.{◌≡◌, ℕ, ◌+◌, ◌-◌, ◌*◌, ◌/◌, ◌%◌, ◌^◌, ◌<◌, ◌≤◌}
use Rattle.std.proofs.Common.{List, length, refl, sym, ap, ◌∙◌, arith, subst}
use Rattle.std.proofs.Math.Nat.{mod-lt, mul-div_cancel_left}
use Rattle.std.proofs.lemmas.Nat.{pow-add, pow_pos}
use Rattle.modular_word.specs.Inverses.{IsInverse}
use Rattle.modular_word.proofs.Congruence.{mod_of_eq, mod_trans, mod_sym, mod_mul, mod_pow, residue_of, mod_refl}
use Rattle.modular_word.proofs.Powers.{pow-mul}
use Rattle.modular_word.proofs.Sums.{sum_below-congruent}
use Rattle.modular_transform.specs.Orders.{bits_reversed, mirrored, IsReordered}
use Rattle.modular_transform.specs.Transforms.{transform}
use Rattle.modular_transform.proofs.BitReversal.{bits_reversed_of_parts, bits_reversed_of_zero}
use Rattle.modular_transform.proofs.InverseTransform.{power_suits, transform_congruent}
use Rattle.modular_transform.proofs.TransformBack.{restored_at}
use Rattle.modular_plan_passes.specs.Plans.{constant, remainder, AreRemainders, AreTwiddles}
use Rattle.modular_plan_transforms.proofs.Backward.{remainders_of_transform, inverse_unscales}
use Rattle.modular_plan_transforms.proofs.NaturalOrder.{no_more_bits}
use Rattle.num_modular_c.specs.Plans.{words_of, shorter_root}

-- the first blocks of a table have the constants of the table for fewer words
constant_of_shorter : (g z bits d j : ℕ) → z ≡ bits + d → j < 2 ^ bits → constant (g ^ (2 ^ d)) bits j ≡ constant g z j
constant_of_shorter g z bits d j sum below =
    let place : j + 2 ^ bits * 0 ≡ j = omega arith in
    let parts = rw place at (bits_reversed_of_parts bits d j 0 below) in
    let turn : bits_reversed (bits + d) j ≡ 2 ^ d * bits_reversed bits j =
    omega (arith, parts, bits_reversed_of_zero d) in
    rw (sum, turn) (sym (pow-mul g (2 ^ d) (bits_reversed bits j)))

-- and so the remainders are the same
remainders_of_shorter : (m g z n bits d : ℕ) (x y : ℕ → ℕ) → n ≡ 2 ^ bits → z ≡ bits + d
    → AreRemainders m (g ^ (2 ^ d)) bits 0 n 1 x y → AreRemainders m g z 0 n 1 x y
remainders_of_shorter m g z n bits d x y whole sum are = record {
  each = λ j i l first.
      let block : 0 * n + j ≡ j = omega arith in
      let same = constant_of_shorter g z bits d (0 * n + j) sum (omega (arith, whole, l, block)) in
      are.each j i l first ∙ ap (λ c. remainder m x n 1 c i) same;
}

-- numbers whose transform the old ones are, and that are each list whose transform these are
pub record IsUndone (m h n : ℕ) (old new : ℕ → ℕ) : Type 0 where
  pub values : (j : ℕ) → j < n → transform m h n new j ≡ old j % m
  pub only : (x : ℕ → ℕ) → ((j : ℕ) → j < n → transform m h n x j ≡ old j % m) → (i : ℕ) → i < n → new i ≡ x i % m

-- words in bit-reversed order that are joined
pub undone_by_join : (m g z n bits count part : ℕ) (w : ℕ → ℕ) (old mid : List ℕ) (new : ℕ → ℕ) → 0 < m
    → n ≡ 2 ^ bits → length old ≡ n → length mid ≡ n → n / 2 ≤ count → AreTwiddles m g z count w
    → IsReordered (bits_reversed bits) old mid → IsInverse m n part
    → ((x : ℕ → ℕ) → AreRemainders m g z 0 n 1 x (λ i. words_of mid i % m)
    → (i : ℕ) → i < n → new i ≡ (n * x i * part) % m)
    → IsUndone m (shorter_root g z n) n (words_of old) new
undone_by_join m g z n bits count part w old mid new some whole len len_mid within twiddles reordered inverse joined =
    let d = z - bits in
    let more = no_more_bits bits z n count whole twiddles.half within in
    let sum : z ≡ bits + d = omega (arith, more) in
    let times : 2 ^ z ≡ n * 2 ^ d = ap (λ v. 2 ^ v) sum ∙ pow-add 2 bits d ∙ ap (λ v. v * 2 ^ d) (sym whole) in
    let quotient : 2 ^ z / n ≡ 2 ^ d = rw (times, whole) (mul-div_cancel_left (2 ^ d) (pow_pos bits)) in
    let h = g ^ (2 ^ d) in
    let only = λ (x : ℕ → ℕ) (are : (j : ℕ) → j < n → transform m h n x j ≡ words_of old j % m) (i : ℕ) (l : i < n).
    joined x (remainders_of_shorter m g z n bits d x (λ k. words_of mid k % m) whole sum
    (remainders_of_transform (λ v. v) m h n bits x old mid whole len len_mid reordered are)) i l
    ∙ inverse_unscales m n part (x i) inverse in
    let suits = power_suits (2 ^ d) n (bits, whole) (rw times at twiddles.suits) in
    let x = λ (i : ℕ). (transform m (h % m) n (words_of old) (mirrored n i) * part) % m in
    let back = λ (k : ℕ) (l : k < n).
    (sum_below-congruent n (λ i. x i * h ^ (i * k)) (λ i. x i * (h % m) ^ (i * k))
    (λ i _. mod_mul (mod_refl (x i)) (mod_pow (i * k) (mod_sym (residue_of h))))).same
    ∙ restored_at m (h % m) n part k x (words_of old) (mod-lt h some) suits inverse l (λ i t. refl) in
    subst (λ q. IsUndone m (g ^ q) n (words_of old) new) (sym quotient) (record {
      values = λ j l. transform_congruent h n j new x (λ i k.
          mod_trans (mod_of_eq (only x back i k)) (residue_of (x i))) ∙ back j l;
      only = only;
    })
