-- Sums of products of scaled forms, and their reduction.
use Rattle.std.proofs.Common.{◌≡◌, ℕ, ◌+◌, ◌*◌, ◌/◌, ◌%◌, ◌^◌, ◌<◌, sym, ap, ap₂, ◌∙◌, subst, arith}
use Rattle.std.proofs.Math.Nat.{add-mul-div_left, add-mul-mod_self_left, div-add-mod}
use Rattle.std.proofs.Math.Nat.{mul-div_cancel_left}
use Rattle.std.proofs.lemmas.Nat.{pow-add}
use Rattle.modular_prim.proofs.DigitSteps.{remainder_is}
use Rattle.modular_word.specs.Congruence.{Congruent}
use Rattle.modular_word.specs.Division.{IsDivision}
use Rattle.modular_word.specs.Sums.{sum_below}
use Rattle.modular_word.proofs.Congruence.{mod_of_eq, mod_refl, mod_trans, mod_add, mod_mul, residue_of}
use Rattle.modular_word.proofs.Sums.{sum_below-same, sum_below-mul, sum_below-joined}
use Rattle.modular_reduced.proofs.FormLemmas.{Answered, answered_by_form, form_of_value}
use Rattle.modular_barrett.specs.Scaling.{scale, scaled_form, scaled_value, IsScaling}
use Rattle.modular_barrett.specs.ScaledForms.{scaled_canonical}
use Rattle.modular_barrett.proofs.ScaledLemmas.{IsScaledForm, Stands, divisor_is, stands_for, sum_stands, value_is}

-- the base is a multiple of each power of two below it
pub base_parts : {w b : ℕ} (s k : ℕ) → b ≡ 2 ^ w → s + k ≡ w → b ≡ 2 ^ s * 2 ^ k
base_parts {w} {b} s k base parts = base ∙ ap (λ n. 2 ^ n) (sym parts) ∙ pow-add 2 s k

-- a word with carries above it, whose remainder is taken first
pub carries_reduced : {first r : ℕ} (d b high c : ℕ) → first ≡ c % d → r ≡ (high + b * first) % d
    → r ≡ (high + b * c) % d
carries_reduced {first} {r} d b high c first_is is =
    let carries : Congruent d first c = mod_trans (mod_of_eq first_is) (residue_of c) in
    is ∙ (mod_add (mod_refl high) (mod_mul (mod_refl b) carries)).same

-- a sum in three words that is a multiple of p^2, reduced but for the lowest word and divided by p
pub reduced_sum_is_scaled_residue : {b d s p rest r q : ℕ} (low high c e v : ℕ) → 0 < p → b ≡ p * e → s ≡ low + b * high
    → rest ≡ (high + b * c) % d → IsDivision ((low + b * rest) / p) d q r → s + b * b * c ≡ p * (p * v)
    → r ≡ (p * v) % d
reduced_sum_is_scaled_residue {b} {d} {s} {p} {rest} {r} {q} low high c e v some base parts upper division is =
    let k = (high + b * c) / d in
    let top : b * (high + b * c) ≡ b * (d * k + rest) =
    let whole = div-add-mod (high + b * c) d in ap (λ n. b * n) (omega (arith, whole, upper)) in
    let multiple : b * (d * k) ≡ p * (d * (e * k)) = ap (λ n. n * (d * k)) base ∙ omega arith in
    let whole : low + b * rest + p * (d * (e * k)) ≡ p * (p * v) = omega (arith, top, multiple, parts, is) in
    let quotient : (low + b * rest) / p + d * (e * k) ≡ p * v =
    sym (add-mul-div_left (low + b * rest) (d * (e * k)) some) ∙ ap (λ n. n / p) whole
    ∙ mul-div_cancel_left (p * v) some in
    remainder_is division ∙ sym (add-mul-mod_self_left ((low + b * rest) / p) d (e * k)) ∙ ap (λ n. n % d) quotient

-- the sum of the products of forms, by that of the products of their values
pub scaled_products : {m p : ℕ} (w n : ℕ) (x y : ℕ → ℕ) → p ≡ scale w m
    → ((i : ℕ) → i < n → IsScaledForm w m (x i)) → ((i : ℕ) → i < n → IsScaledForm w m (y i))
    → sum_below n (λ i. x i * y i) ≡ p * (p * sum_below n (λ i. scaled_value w m (x i) * scaled_value w m (y i)))
scaled_products {m} {p} w n x y scaled x_is y_is =
    let f = λ (i : ℕ). scaled_value w m (x i) * scaled_value w m (y i) in
    let each : (i : ℕ) → i < n → x i * y i ≡ p * (p * f i) =
    λ i l. ap₂ (λ a b. a * b) ((x_is i l).same ∙ ap (λ k. scaled_value w m (x i) * k) (sym scaled))
    ((y_is i l).same ∙ ap (λ k. scaled_value w m (y i) * k) (sym scaled)) ∙ omega arith in
    sum_below-same n (λ i. x i * y i) (λ i. p * (p * f i)) each
    ∙ sum_below-mul n p (λ i. p * f i) ∙ ap (λ s. p * s) (sum_below-mul n p f)

-- the products from index i to i + k - 1
pub block_adds_scaled_products : (p i k : ℕ) (f : ℕ → ℕ) (before after : ℕ) → before ≡ p * (p * sum_below i f)
    → after ≡ p * (p * sum_below (i + k) f) → after ≡ before + p * (p * sum_below k (λ j. f (i + j)))
block_adds_scaled_products p i k f before after before_is after_is = grind (arith, sum_below-joined)

-- the form of their sum
pub block_stands : {w m d s : ℕ} (r v : ℕ) → IsScaling w m d s → r ≡ (2 ^ s * v) % d → Stands w m r (v % m)
block_stands {w} {m} {d} {s} r v is e =
    let same : 2 ^ s * v ≡ v * scale w m = ap (λ n. 2 ^ n * v) is.zeros ∙ omega arith in
    stands_for w m d v r is.positive (divisor_is is) (e ∙ ap (λ n. n % d) same)

-- added to the products before them
pub block_residue_extends_sum : {w m d s : ℕ} (total r next sum i k : ℕ) (f : ℕ → ℕ) → IsScaling w m d s
    → IsScaledForm w m total
    → scaled_value w m total ≡ (sum + sum_below i f) % m → r ≡ (2 ^ s * sum_below k (λ j. f (i + j))) % d
    → next ≡ (total + r) % d
    → Answered (scaled_form w) (scaled_value w) m next ((sum + sum_below (i + k) f) % m)
block_residue_extends_sum {w} {m} {d} {s} total r next sum i k f is form value r_is next_is =
    let v = sum_below k (λ j. f (i + j)) in
    let stands = block_stands r v is r_is in
    let made = answered_by_form (scaled_canonical is)
    (sum_stands w m d total r next is.positive (divisor_is is) form (form_of_value (scaled_canonical is) stands)
    next_is) in
    let added : Congruent m (scaled_value w m total + scaled_value w m r) (sum + sum_below i f + v) =
    mod_add (mod_trans (mod_of_eq value) (residue_of (sum + sum_below i f)))
    (mod_trans (mod_of_eq (sym (value_is w m r (v % m) stands))) (residue_of v)) in
    let joined : sum + sum_below i f + v ≡ sum + sum_below (i + k) f =
    let j = sum_below-joined i k f in omega (arith, j) in
    let same : (scaled_value w m total + scaled_value w m r) % m ≡ (sum + sum_below (i + k) f) % m =
    added.same ∙ ap (λ n. n % m) joined in
    subst (λ n. Answered (scaled_form w) (scaled_value w) m next n) same made
