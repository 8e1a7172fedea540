-- The arithmetic of a division of two words by one through a reciprocal.
use Rattle.std.proofs.Common.{◌≡◌, ℕ, ◌+◌, ◌-◌, ◌*◌, ◌/◌, ◌%◌, ◌<◌, ◌≤◌}
use Rattle.std.proofs.Common.{ap, ◌∙◌, subst, arith, ◌⊎◌, ⊎_elim}
use Rattle.std.proofs.Math.Nat.{mod-eq_of_lt, mod-lt, mul-le-mul_left}
use Rattle.std.proofs.Math.Nat.{mul-le-mul_right, lt_of_mul-lt-mul_right}
use Rattle.std.proofs.lemmas.Bool.{cases_lt}
use Rattle.modular_word.specs.Reciprocals.{IsReciprocal}
use Rattle.modular_word.proofs.Congruence.{same_rest, mod_cancel}

-- what is left of the dividend, computed in words, is the number R that the whole numbers give
pub guess_rest : (B d a0 A q q1 r R : ℕ) → r < B → R < B
    → q ≡ (q1 + 1) % B → (r + (q * d) % B) % B ≡ a0
    → R + (q1 + 1) * d ≡ a0 + B * A → R ≡ r
guess_rest B d a0 A q q1 r R hr hR eq e0 e =
    let z = (q1 + 1) / B in
    let u = (r + ((q * d) % B)) / B in
    let ed : (B * z + q) * d ≡ (q1 + 1) * d = ap (λ x. x * d) (omega arith) in
    same_rest B R r (z * d + ((q * d) / B) + u) A hR hr (omega arith)

-- the dividend times the base, less the guessed multiple of the divisor
pub scaled_dividend_expanded : (c d v k a0 a1 q0 q1 : ℕ)
    → (v + (c + d)) * d + k ≡ (c + d) * (c + d)
    → v * a1 + (a0 + (c + d) * a1) ≡ q0 + (c + d) * q1
    → (c + d) * (a0 + (c + d) * a1) ≡ a1 * k + a0 * c + q0 * d + (c + d) * (q1 * d)
scaled_dividend_expanded c d v k a0 a1 q0 q1 h p =
    let h1 : (v * a1 + (a0 + (c + d) * a1)) * d ≡ (q0 + (c + d) * q1) * d = ap (λ x. x * d) p in
    let h2 : a1 * ((v + (c + d)) * d + k) ≡ a1 * ((c + d) * (c + d)) = ap (λ x. a1 * x) h in
    omega arith

-- a guess that is not too great leaves R: above q0 it is below c
pub guess_low : (c d k a0 a1 q0 q1 R : ℕ)
    → k ≤ d → a1 < d → a0 < c + d
    → (c + d) * (a0 + (c + d) * a1) ≡ a1 * k + a0 * c + q0 * d + (c + d) * (q1 * d)
    → a0 + (c + d) * a1 ≡ (q1 + 1) * d + R
    → q0 < R → R < c
guess_low c d k a0 a1 q0 q1 R hk h1 h0 e ea hq =
    ⊎_elim
    (λ (h : R < c). h)
    (λ (h : c ≤ R).
    let m1 : a1 * k ≤ a1 * d = mul-le-mul_left _ hk in
    let m2 : (a1 + 1) * d ≤ d * d = mul-le-mul_right _ (omega arith) in
    let m3 : (a0 + 1) * c ≤ (c + d) * c = mul-le-mul_right _ (omega arith) in
    let m4 : c * c ≤ c * R = mul-le-mul_left _ h in
    let m5 : d * (q0 + 1) ≤ d * R = mul-le-mul_left _ (omega arith) in
    let ea' : (c + d) * (a0 + (c + d) * a1) ≡ (c + d) * ((q1 + 1) * d + R) = ap (λ x. (c + d) * x) ea in
    absurd (omega arith))
    (cases_lt _ _)

-- a guess that is too great is so by S, which is at most d, and B - S is above q0
pub guess_high : (c d k a0 a1 q0 q1 S : ℕ)
    → 0 < c → a0 < c + d → 0 < S
    → (c + d) * (a0 + (c + d) * a1) ≡ a1 * k + a0 * c + q0 * d + (c + d) * (q1 * d)
    → a0 + (c + d) * a1 + S ≡ (q1 + 1) * d
    → (S ≤ d) × (S + q0 < c + d)
guess_high c d k a0 a1 q0 q1 S hc h0 hS e ea =
    let ea' : (c + d) * (a0 + (c + d) * a1 + S) ≡ (c + d) * ((q1 + 1) * d) = ap (λ x. (c + d) * x) ea in
    let main : (c + d) * S + q0 * d ≤ (c + d) * d = omega arith in
    let second : S + q0 < c + d =
    ⊎_elim
    (λ (h : S + q0 < c + d). h)
    (λ (h : c + d ≤ S + q0).
    let m : d * (c + d) ≤ d * (S + q0) = mul-le-mul_left _ h in
    let n : c * 1 ≤ c * S = mul-le-mul_left _ (omega arith) in
    absurd (omega arith))
    (cases_lt _ _) in
    ((grind (arith, mul-le-mul_left)), second)

-- what a division by a reciprocal starts from: the divisor's reciprocal v, a dividend whose high
-- word is below the divisor, and the product of v and the high word, plus the dividend
pub record Setting (B d v a0 a1 q0 q1 : ℕ) : Type 0 where
  pub reciprocal : IsReciprocal B d v
  pub divisor_fits : d < B
  pub high : a1 < d
  pub low_fits : a0 < B
  pub high_fits : q1 < B
  pub rest_fits : q0 < B
  pub product : v * a1 + (a0 + B * a1) ≡ q0 + B * q1

-- the guess q1 + 1 is not too great, and leaves r
pub record GuessFits (B d a q0 q1 r : ℕ) : Type 0 where
  pub rest : r + (q1 + 1) * d ≡ a
  pub below : q0 < r → r + d < B

-- the guess q1 + 1 is too great, and leaves r with a borrow
pub record GuessIsOver (B d a q0 q1 r : ℕ) : Type 0 where
  pub rest : r + (q1 + 1) * d ≡ a + B
  pub above : q0 < r
  pub carries : B ≤ r + d

abbrev pub Guess : (B d a q0 q1 r : ℕ) → Type 0
Guess B d a q0 q1 r = GuessFits B d a q0 q1 r ⊎ GuessIsOver B d a q0 q1 r

guess_at_sum : (c d v a0 a1 q0 q1 q r : ℕ) → Setting (c + d) d v a0 a1 q0 q1
    → r < c + d → q ≡ (q1 + 1) % (c + d) → (r + (q * d) % (c + d)) % (c + d) ≡ a0
    → Guess (c + d) d (a0 + (c + d) * a1) q0 q1 r
guess_at_sum c d v a0 a1 q0 q1 q r s hr eq er =
    let k = (c + d) * (c + d) - (v + (c + d)) * d in
    let e = scaled_dividend_expanded _ _ _ k _ _ _ _ (omega (arith, s.reciprocal.below)) s.product in
    let a = a0 + (c + d) * a1 in
    ⊎_elim
    (λ (h : a < (q1 + 1) * d).
    let S = (q1 + 1) * d - a in
    let R = c + d - S in
    let both = guess_high _ _ k _ _ _ _ S (omega (arith, s.divisor_fits)) s.low_fits (omega arith) e (omega arith) in
    let eR : R ≡ r =
    guess_rest (c + d) d a0 (a1 + 1) q q1 r R hr (omega (arith, both.0)) eq er (omega (arith, both.0)) in
    grind arith)
    (λ (h : (q1 + 1) * d ≤ a).
    let R = a - (q1 + 1) * d in
    let low : q0 < R → R < c = guess_low _ _ k _ _ _ _ R (omega (arith, s.reciprocal.close)) s.high s.low_fits e
    (omega arith) in
    let eR : R ≡ r = guess_rest (c + d) d a0 a1 q q1 r R hr (grind arith) eq er (omega arith) in
    grind arith)
    (cases_lt a ((q1 + 1) * d))

-- what the guess leaves
pub guess_of : (B d v a0 a1 q0 q1 q r : ℕ) → Setting B d v a0 a1 q0 q1
    → r < B → q ≡ (q1 + 1) % B → (r + (q * d) % B) % B ≡ a0
    → Guess B d (a0 + B * a1) q0 q1 r
guess_of B d v a0 a1 q0 q1 q r s hr eq er =
    let e : (B - d) + d ≡ B = omega (arith, s.divisor_fits) in
    subst
    (λ b. Setting b d v a0 a1 q0 q1 → r < b → q ≡ (q1 + 1) % b → (r + (q * d) % b) % b ≡ a0
    → Guess b d (a0 + b * a1) q0 q1 r)
    e (guess_at_sum (B - d) _ _ _ _ _ _ _ _) s hr eq er

-- one step down after a guess that leaves more than q0
pub step_down : (B d a q0 q1 q r q' r' : ℕ) → d < B → q1 < B → r < B → q' < B
    → Guess B d a q0 q1 r → q ≡ (q1 + 1) % B → (q' + 1) % B ≡ q → r' ≡ (r + d) % B → q0 < r
    → a ≡ q' * d + r'
step_down B d a q0 q1 q r q' r' hd h1 hr hq' guess eq eq' er' hr0 =
    let ed : q' * d ≡ q1 * d = ap (λ x. x * d) (mod_cancel _ _ _ _ hq' h1 (eq' ∙ eq)) in
    ⊎_elim
    (λ (f : GuessFits B d a q0 q1 r).
    grind (arith, mod-eq_of_lt))
    (λ (o : GuessIsOver B d a q0 q1 r).
    let ex : (r + d) % B ≡ (r + d - B) =
    same_rest B ((r + d) % B) (r + d - B) ((r + d) / B) 1 (mod-lt _ (omega arith)) (omega arith)
    (omega (arith, o.carries)) in
    omega (arith, o.rest, o.carries))
    guess

-- no step after a guess that leaves at most q0
pub small_rest_guess_is_exact : (B d a q0 q1 q r : ℕ) → d < B → a < d * B → q1 < B
    → Guess B d a q0 q1 r → q ≡ (q1 + 1) % B → r ≤ q0 → a ≡ q * d + r
small_rest_guess_is_exact B d a q0 q1 q r hd ha h1 guess eq hr0 =
    ⊎_elim
    (λ (f : GuessFits B d a q0 q1 r).
    let h : q1 + 1 < B = lt_of_mul-lt-mul_right _ (let h' : (q1 + 1) * d < B * d = omega (arith, f.rest) in h') in
    let ed : q * d ≡ (q1 + 1) * d = ap (λ x. x * d) (eq ∙ mod-eq_of_lt h) in
    omega (arith, f.rest))
    (λ (o : GuessIsOver B d a q0 q1 r). absurd (omega (arith, o.above))) guess

-- one step up
pub step_up : (B d a q r q' r' : ℕ) → d < B → a < d * B → r < B → r' < B → d ≤ r
    → a ≡ q * d + r → q' ≡ (q + 1) % B → (r' + d) % B ≡ r → (a ≡ q' * d + r') × (r' + d ≡ r)
step_up B d a q r q' r' hd ha hr hr' hd' e eq er =
    let x = r - d in
    let ex : r' ≡ x = grind (arith, mod_cancel, mod-eq_of_lt) in
    let h : q + 1 < B = lt_of_mul-lt-mul_right _ (let h' : (q + 1) * d < B * d = omega arith in h') in
    let ed : q' * d ≡ (q + 1) * d = ap (λ x. x * d) (eq ∙ mod-eq_of_lt h) in
    (omega arith, omega arith)
