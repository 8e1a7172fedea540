-- Polynomials of texts that are joined, and of texts behind zeros.
use Rattle.std.proofs.Common.{◌≡◌, ℕ, zero, suc, ◌+◌, ◌*◌, ◌%◌, ◌^◌, List, ◌++◌, length, slice_index}
use Rattle.std.proofs.Common.{replicate, arith, ap, ap₂, sym, ◌∙◌, length-append}
use Rattle.std.proofs.Math.ListN.{get_or-append}
use Rattle.std.proofs.Math.Nat.{pow-zero, pow-suc, mod-add-mod}
use Rattle.std.proofs.lemmas.Nat.{mul-mod_first}
use Rattle.std.proofs.lemmas.List.{length-replicate, get_or-replicate, get_or-append-add}
use Rattle.num_modular.specs.NumberLaws.{sum_below-of_zeros, sum_below-same}
use Rattle.num_modular.specs.Sums.{sum_below, polynomial_highest_first}

-- Horner's rule, as `range_laws` states it
abbrev pub Horner : Type 0
Horner = (n : ℕ) (c : ℕ → ℕ) (x : ℕ) → polynomial_highest_first (n + 1) c x ≡ polynomial_highest_first n c x * x + c n

-- the first n of n + k coefficients, and the others
pub polynomial_joined : Horner → (n k : ℕ) (c : ℕ → ℕ) (x : ℕ) → polynomial_highest_first (n + k) c x
    ≡ polynomial_highest_first n c x * x ^ k + polynomial_highest_first k (λ i. c (n + i)) x
unfolding sum_below
polynomial_joined horner n zero c x = grind (arith, pow-zero)
polynomial_joined horner n (suc k) c x =
    let before = polynomial_joined horner n k c x in
    let one_more : n + suc k ≡ n + k + 1 = omega arith in
    let last : suc k ≡ k + 1 = omega arith in
    let power = ap (λ v. polynomial_highest_first n c x * v) (pow-suc x k) in
    let times = ap (λ v. v * x) before in
    ap (λ k. polynomial_highest_first k c x) one_more
    ∙ sym (ap (λ j. polynomial_highest_first n c x * x ^ suc k + polynomial_highest_first j (λ i. c (n + i)) x) last
    ∙ omega (arith, power, times, horner (n + k) c x, horner k (λ i. c (n + i)) x))

-- of two texts, one after the other
pub polynomial_of_joined : Horner → (s t : List ℕ) (x : ℕ)
    → polynomial_highest_first (length (s ++ t)) (slice_index (s ++ t)) x
    ≡ polynomial_highest_first (length s) (slice_index s) x * x ^ length t
    + polynomial_highest_first (length t) (slice_index t) x
polynomial_of_joined horner s t x =
    search (arith, sum_below-same, get_or-append, get_or-append-add, length-append, polynomial_joined)

-- zeros in front change nothing
pub polynomial_behind_zeros : Horner → (n d : ℕ) (cs : List ℕ) (x : ℕ) → n ≡ d + length cs
    → polynomial_highest_first n (slice_index (replicate d 0 ++ cs)) x
    ≡ polynomial_highest_first (length cs) (slice_index cs) x
polynomial_behind_zeros horner n d cs x whole =
    let zeros : List ℕ = replicate d 0 in
    let length_is : length zeros ≡ d = length-replicate d 0 in
    let none : polynomial_highest_first (length zeros) (slice_index zeros) x ≡ 0 =
    sum_below-of_zeros _ _ (λ i l. rw (get_or-replicate {A = ℕ} d i 0 0 (omega (arith, l, length_is))) (omega arith)) in
    let longer : length (zeros ++ cs) ≡ n = length-append zeros cs ∙ ap (λ n. n + length cs) length_is ∙ sym whole in
    grind (arith, polynomial_of_joined)

-- without a coefficient, and with one
pub no_coefficient : (c : ℕ → ℕ) (x : ℕ) → polynomial_highest_first 0 c x ≡ 0
unfolding sum_below
no_coefficient c x = omega arith

pub one_coefficient : Horner → (c : ℕ → ℕ) (x : ℕ) → polynomial_highest_first 1 c x ≡ c 0
unfolding sum_below
one_coefficient horner c x = omega (arith, horner 0 c x)

-- one step of Horner's rule, modulo m
pub horner_step_is_residue : Horner → (m n : ℕ) (c : ℕ → ℕ) (x d value product : ℕ) → c n ≡ d
    → value ≡ polynomial_highest_first n c x % m → product ≡ (value * x) % m
    → (product + d) % m ≡ polynomial_highest_first (n + 1) c x % m
horner_step_is_residue horner m n c x d value product is e f =
    let times = f ∙ ap (λ k. (k * x) % m) e ∙ mul-mod_first _ x m in
    ap₂ (λ k d. (k + d) % m) times (sym is) ∙ mod-add-mod _ m (c n) ∙ ap (λ k. k % m) (sym (horner n c x))
