-- The result of an operator whose right operand was reduced first, and that a quotient is one.
use Rattle.std.proofs.Common.{◌≡◌, ℕ, suc, ◌+◌, ◌*◌, ◌/◌, ◌%◌, ◌<◌, ℤ, pos}
use Rattle.std.proofs.Common.{negsuc, ◌+ℤ◌, ◌-ℤ◌, ◌*ℤ◌, arith, ap, sym, ◌∙◌}
use Rattle.std.proofs.Math.Nat.{mod-eq_of_lt, add-mod-mod, mod-lt}
use Rattle.std.proofs.lemmas.Int.{ints}
use Rattle.std.proofs.lemmas.Nat.{mul-mod_first, mul-mod_second, same_from_place}
use Rattle.modular_word.specs.Inverses.{IsInverse}
use Rattle.modular_word.specs.Residues.{IsResidue, residue}
use Rattle.modular_word.proofs.ResidueLemmas.{residue_is}
use Rattle.modular_reduced.specs.Integers.{IsModularQuotient}

pub sum_with_residue_congruent : (m x n v : ℕ) → v ≡ n % m → (x + v) % m ≡ (x + n) % m
sum_with_residue_congruent m x n v e = ap (λ k. (x + k) % m) e ∙ add-mod-mod x n m

pub product_with_residue_congruent : (m x n v : ℕ) → v ≡ n % m → (x * v) % m ≡ (x * n) % m
product_with_residue_congruent m x n v e = ap (λ k. (x * k) % m) e ∙ mul-mod_second x n m

-- numbers that differ by a multiple of m leave one residue of a difference
less_multiple : (m x v k w u : ℕ) (p q : ℤ) → w < m → u < m → pos x -ℤ pos v ≡ pos w +ℤ (p *ℤ pos m)
    → pos x -ℤ pos (v + k * m) ≡ pos u +ℤ (q *ℤ pos m) → w ≡ u
less_multiple m x v k w u (pos a) (pos b) h i e f =
    let n : a * m + w ≡ (k + b) * m + u = omega (arith, ints) in (same_from_place a w (k + b) u m h i n).1
less_multiple m x v k w u (pos a) (negsuc b) h i e f =
    let n : (a + suc b) * m + w ≡ k * m + u = omega (arith, ints) in (same_from_place (a + suc b) w k u m h i n).1
less_multiple m x v k w u (negsuc a) (pos b) h i e f = grind (arith, ints, same_from_place)
less_multiple m x v k w u (negsuc a) (negsuc b) h i e f =
    let n : suc b * m + w ≡ (k + suc a) * m + u = omega (arith, ints) in
    (same_from_place (suc b) w (k + suc a) u m h i n).1

pub difference_reduced : (m x n v : ℕ) → 0 < m → v ≡ n % m → residue m (pos x -ℤ pos v) ≡ residue m (pos x -ℤ pos n)
difference_reduced m x n v h e =
    let left : IsResidue m (pos x -ℤ pos v) (residue m (pos x -ℤ pos v)) = residue_is m (pos x -ℤ pos v) h in
    let right : IsResidue m (pos x -ℤ pos n) (residue m (pos x -ℤ pos n)) = residue_is m (pos x -ℤ pos n) h in
    let whole : n ≡ v + n / m * m = omega arith in
    grind (arith, less_multiple)

-- x times the inverse of y is the quotient of x by y
pub quotient_by_inverse : (m x y i q : ℕ) → x < m → 0 < m → IsInverse m y i
    → q ≡ (x * i) % m → IsModularQuotient m x y q
quotient_by_inverse m x y i q below positive inverse e =
    let turn : x * i * y ≡ x * (y * i) = omega arith in
    let one : x * 1 ≡ x = omega arith in
    record {
      below = rw e (mod-lt (x * i) positive);
      product =
          ap (λ n. (n * y) % m) e ∙ mul-mod_first (x * i) y m ∙ ap (λ n. n % m) turn ∙ sym (mul-mod_second x (y * i) m)
          ∙ ap (λ n. (x * n) % m) inverse.one ∙ mul-mod_second x 1 m ∙ ap (λ n. n % m) one ∙ mod-eq_of_lt below;
    }
