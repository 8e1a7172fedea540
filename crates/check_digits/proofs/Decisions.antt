-- Facts about the numbers below n that are tested for each of them.
use Rattle.std.proofs.Common.{◌≡◌, ℕ, zero, suc, ◌<◌, ◌≤◌, Bool, true, ◌&&◌, ◌||◌, not, nat_eq, arith, ⊎_elim}
use Rattle.std.proofs.lemmas.Bool.{and_parts, eqb-true, eq-eqb, cases_lt, false≢true}

-- whether each number below n passes a test
abbrev pub each_below : ℕ → (ℕ → Bool) → Bool
each_below zero test = true
each_below (suc n) test = each_below n test && test n

pub each_passes : (n : ℕ) (test : ℕ → Bool) → each_below n test ≡ true → (i : ℕ) → i < n → test i ≡ true
each_passes zero test h i l = absurd (omega (arith, l))
each_passes (suc n) test h i l =
    let parts = and_parts (each_below n test) (test n) h in
    ⊎_elim (λ (b : i < n). each_passes n test parts.0 i b) (λ (b : n ≤ i). search arith) (cases_lt _ n)

-- whether a term of three digits is the same with the last two exchanged only where these are equal
abbrev pub asymmetric : (ℕ → ℕ → ℕ → ℕ) → Bool
asymmetric u =
    each_below 10 (λ c. each_below 10 (λ a. each_below 10 (λ b. not (nat_eq (u c a b) (u c b a)) || nat_eq a b)))

abbrev pub IsAsymmetric : (ℕ → ℕ → ℕ → ℕ) → Type 0
IsAsymmetric u = (c a b : ℕ) → c ≤ 9 → a ≤ 9 → b ≤ 9 → u c a b ≡ u c b a → a ≡ b

not_or : (p q : Bool) → (not p || q) ≡ true → p ≡ true → q ≡ true
not_or p q h e = grind (arith, false≢true)

pub is_asymmetric_by_test : (u : ℕ → ℕ → ℕ → ℕ) → asymmetric u ≡ true → IsAsymmetric u
is_asymmetric_by_test u h c a b c_most a_most b_most same =
    let t : (not (nat_eq (u c a b) (u c b a)) || nat_eq a b) ≡ true =
    each_passes 10 (λ b. not (nat_eq (u c a b) (u c b a)) || nat_eq a b)
    (each_passes 10 (λ a. each_below 10 (λ b. not (nat_eq (u c a b) (u c b a)) || nat_eq a b))
    (each_passes 10 (λ c. each_below 10 (λ a. each_below 10 (λ b. not (nat_eq (u c a b) (u c b a)) || nat_eq a b)))
    h c (omega arith)) a (omega arith)) b (omega arith) in
    eqb-true a b (search (arith, not_or, eq-eqb))
