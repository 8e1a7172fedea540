-- The half system 1, 2, .., (n - 1) / 2 of an odd n, and what a factor coprime to n does to it.
use Rattle.std.proofs.Common.{◌≡◌, ℕ, ◌+◌, ◌-◌, ◌*◌, ◌%◌, ◌/◌, ◌<◌, ◌≤◌, ℤ, pos}
use Rattle.std.proofs.Common.{cond, ltb, sym, ◌∙◌, ap, refl, arith, ⊎_elim, ◌≢◌, ◌⊎◌}
use Rattle.std.proofs.lemmas.Bool.Decides.{nat_tests}
use Rattle.std.proofs.lemmas.Bool.{cases_lt}
use Rattle.std.proofs.lemmas.Nat.{mul-mod_second}
use Rattle.std.proofs.Math.Nat.{mul-mod_right, mod-eq_of_lt, mod-eq-sub-mod}
use Rattle.modular_word.specs.Divisors.{Coprime}
use Rattle.modular_word.specs.Residues.{residue}
use Rattle.modular_word.specs.Sums.{sum_to, Permutes}
use Rattle.modular_word.proofs.Divisors.{divides_rest, coprime_cancel}
use Rattle.modular_word.proofs.Sums.{sum_to-same, sum_to-add, sum_to-parity, sum_to-permuted}
use Rattle.modular_symbols.specs.Jacobi.{half_system_count}
use Rattle.modular_symbols.proofs.ResidueProducts.{residue-multiple}

-- 1 where the remainder of v by n lies above the half system, else 0
unfoldable pub above : ℕ → ℕ → ℕ
above n v = cond (ltb ((n - 1) / 2) (v % n)) 1 0

-- how far v is from the nearest multiple of n
unfoldable pub distance : ℕ → ℕ → ℕ
distance n v = cond (ltb ((n - 1) / 2) (v % n)) (n - v % n) (v % n)

-- the count as a sum
pub half_system_count-sum : (a n : ℕ) → half_system_count (pos a) n ≡ sum_to (λ x. above n (a * x)) ((n - 1) / 2)
unfolding half_system_count above
half_system_count-sum a n = refl

-- the count sees a factor by its residue alone
pub half_system_count-residue : (a : ℤ) (n : ℕ) → 0 < n
    → half_system_count a n ≡ half_system_count (pos (residue n a)) n
unfolding half_system_count above
half_system_count-residue a n p = search (arith, sum_to-same, residue-multiple)

-- ---- opposite remainders
multiple_below_twice_is_modulus : (n u : ℕ) → u % n ≡ 0 → 0 < u → u < 2 * n → u ≡ n
multiple_below_twice_is_modulus n u e p l = search (arith, mod-eq_of_lt, mod-eq-sub-mod, cases_lt)

-- the remainders of two numbers whose sum n divides add up to n
opposite_remainders : (n v w : ℕ) → 0 < n → (v + w) % n ≡ 0 → w % n ≢ 0 → v % n + w % n ≡ n
opposite_remainders n v w p e z =
    let d = divides_rest _ _ (v % n + w % n) (mul-mod_right _ (v / n + w / n)) (ap (λ u. u % n) (omega arith) ∙ e) in
    multiple_below_twice_is_modulus _ (v % n + w % n) d (omega arith) (omega arith)

opposite_products_add_to_modulus : (n a v : ℕ) → 0 < n → (a * v) % n ≢ 0 → (a * (n - v % n)) % n + (a * v) % n ≡ n
opposite_products_add_to_modulus n a v p z =
    let r : (a * (v % n)) % n ≡ (a * v) % n = mul-mod_second a v n in
    let u : (n - v % n) + v % n ≡ n = omega arith in
    let k = ap (λ x. a * x) u in
    let o = opposite_remainders n (a * (n - v % n)) (a * (v % n)) p
    (ap (λ u. u % n) (omega arith) ∙ mul-mod_right n a) (λ e. z (sym r ∙ e)) in
    omega arith

-- a * v lies above as a times the distance of v does, and the other way where v itself lies above
above-product : (n a v : ℕ) → n % 2 ≡ 1 → (a * v) % n ≢ 0
    → above n (a * v) % 2 ≡ (above n (a * distance n v) + above n v) % 2
unfolding above distance
above-product n a v o z = grind (arith, nat_tests, opposite_products_add_to_modulus, mul-mod_second)

-- ---- a factor coprime to n permutes the half system, up to signs
-- n divides no product of such a factor and a number below n
pub not_divided : (n b x : ℕ) → Coprime b n → 0 < x → x < n → (b * x) % n ≢ 0
not_divided n b x c p l e = search (arith, coprime_cancel, mod-eq_of_lt)

-- such a factor cancels
pub equal_remainders : (n b x z : ℕ) → Coprime b n → x ≤ z → z < n → (b * x) % n ≡ (b * z) % n → x ≡ z
equal_remainders n b x z c l h e =
    let u : x + (z - x) ≡ z = omega arith in
    let k = ap (λ v. b * v) u in
    let d : (b * (z - x)) % n ≡ 0 =
    divides_rest n (n * (b * x / n)) (b * (z - x)) (mul-mod_right n (b * x / n))
    (ap (λ v. v % n) (omega arith) ∙ mul-mod_right n (b * z / n)) in
    search (arith, coprime_cancel, mod-eq_of_lt)

opposite_never : (n b x z : ℕ) → Coprime b n → 0 < x → x + z < n → (b * x) % n + (b * z) % n ≡ n → ⊥
opposite_never n b x z c p l e =
    let s : b * (x + z) ≡ n * (b * x / n + b * z / n + 1) = omega arith in
    not_divided _ _ _ c (omega arith) l (ap (λ v. v % n) s ∙ mul-mod_right _ _)

distances_apart : (n b x z : ℕ) → n % 2 ≡ 1 → Coprime b n → 0 < x → x ≤ (n - 1) / 2 → 0 < z → z ≤ (n - 1) / 2
    → distance n (b * x) ≡ distance n (b * z) → x ≡ z
unfolding distance
distances_apart n b x z o c p q u v e =
    ⊎_elim
    (λ (s : (b * x) % n ≡ (b * z) % n). search (arith, equal_remainders, cases_lt))
    (λ (s : (b * x) % n + (b * z) % n ≡ n). absurd (opposite_never _ _ _ _ c p (omega arith) s))
    (grind (arith, nat_tests))

pub half_system_permuted : (n b : ℕ) → n % 2 ≡ 1 → Coprime b n → Permutes (λ x. distance n (b * x)) ((n - 1) / 2)
unfolding distance
half_system_permuted n b o c = record {
  positive = λ x p l. grind (arith, nat_tests, not_divided n b x c p (omega arith));
  within = λ x p l. grind (arith, nat_tests);
  apart = λ x z. distances_apart n b x z o c;
}

-- ---- the count of a product
-- has the parity of the sum of the counts
pub half_system_count-product : (a b n : ℕ) → n % 2 ≡ 1 → Coprime (a * b) n → Coprime b n
    → half_system_count (pos (a * b)) n % 2 ≡ (half_system_count (pos a) n + half_system_count (pos b) n) % 2
half_system_count-product a b n o c k =
    let h : ℕ = (n - 1) / 2 in
    let i = sum_to-parity (λ x. above n (a * b * x)) (λ x. above n (a * distance n (b * x)) + above n (b * x)) h
    (λ x p l.
    ap (λ v. above n v % 2) (omega arith)
    ∙ above-product n a (b * x) o (λ w. (not_divided n (a * b) x c p (omega arith)) (ap (λ v. v % n) (omega arith)
    ∙ w))) in
    let j = sum_to-add (λ x. above n (a * distance n (b * x))) (λ x. above n (b * x)) h in
    let m = sum_to-permuted (λ x. distance n (b * x)) (λ y. above n (a * y)) h (half_system_permuted n b o k) in
    search (arith, half_system_count-sum)
