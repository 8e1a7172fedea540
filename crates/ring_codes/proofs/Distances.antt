-- Words that agree at as many places as their messages have symbols are of one message.
use Rattle.ring_codes.proofs.Names.{◌≡◌, ◌≢◌, ◌+◌, ◌-◌, ◌%◌, ◌<◌, ◌≤◌, ◌∙◌, ℕ, zero, suc, cond, eqb, sym, arith, refl}
use Rattle.ring_codes.proofs.Names.{inl, inr, cases_eq, cases_lt, eqb_tells, same_coefficients, Congruent, mod_refl}
use Rattle.ring_codes.proofs.Names.{sum_below-zero, sum_below-more, sum_below-of_zeros, HaveUnitDifferences}
use Rattle.ring_codes.proofs.Names.{polynomial-congruent, IsEncoding, IsErasureCodeword, distance}
use Rattle.num_modular.specs.Sums.{sum_below}

-- k of the first n places, in their order, at which two words agree
pub record Selection (n k : ℕ) (a b : ℕ → ℕ) : Type 0 where
  pub place : ℕ → ℕ
  pub within : (i : ℕ) → i < k → place i < n
  pub same : (i : ℕ) → i < k → a (place i) ≡ b (place i)
  pub rising : (i j : ℕ) → i < j → j < k → place i < place j

-- a place more at the end
pub extended_sequence : ℕ → ℕ → (ℕ → ℕ) → ℕ → ℕ
extended_sequence k n s i = cond (eqb i k) n (s i)

pub at_end : (k n : ℕ) (s : ℕ → ℕ) (i : ℕ) → i ≡ k → extended_sequence k n s i ≡ n
unfolding extended_sequence
at_end k n s i e = elim (eqb_tells i k) [ inl p ↦ rw p.0 refl | inr p ↦ absurd (p.1 e) ]

pub before_end : (k n : ℕ) (s : ℕ → ℕ) (i : ℕ) → i ≢ k → extended_sequence k n s i ≡ s i
unfolding extended_sequence
before_end k n s i other = elim (eqb_tells i k) [ inl p ↦ absurd (other p.1) | inr p ↦ rw p.0 refl ]

-- what holds of each place holds of one more
pub extended_each : (k n : ℕ) (s : ℕ → ℕ) (P : ℕ → ℕ → Type 0) → ((i : ℕ) → i < k → P i (s i)) → P k n
    → (i : ℕ) → i < k + 1 → P i (extended_sequence k n s i)
extended_each k n s P each last i l = grind (arith, cases_eq, at_end, before_end)

pub extended_rising : (k n : ℕ) (s : ℕ → ℕ) → ((i : ℕ) → i < k → s i < n)
    → ((i j : ℕ) → i < j → j < k → s i < s j) → (i j : ℕ) → i < j → j < k + 1
    → extended_sequence k n s i < extended_sequence k n s j
extended_rising k n s within rising i j l b =
    rw (before_end k n s i (omega arith))
    (extended_each k n s (λ j p. i < j → s i < p) (λ j d l. rising i j l d) (λ l. within i l) j b l)

with_last : (n k : ℕ) (a b : ℕ → ℕ) → Selection n k a b → a n ≡ b n → Selection (suc n) (suc k) a b
with_last n k a b s last = record {
  place = extended_sequence k n s.place;
  within = λ i l. extended_each k n s.place (λ i p. p < suc n) (λ i l. let q = s.within i l in omega (arith, q))
      (omega arith) i
      (omega arith);
  same = λ i l. extended_each k n s.place (λ i p. a p ≡ b p) s.same last i (omega arith);
  rising = λ i j l b. extended_rising k n s.place s.within s.rising i j l (omega arith);
}

selected_of_more : (n k : ℕ) (a b : ℕ → ℕ) → Selection n k a b → Selection (suc n) k a b
selected_of_more n k a b s = grind arith

none_selected : (n : ℕ) (a b : ℕ → ℕ) → Selection n 0 a b
none_selected n a b = record {
  place = λ i. i;
  within = λ i l. absurd (omega arith);
  same = λ i l. absurd (omega arith);
  rising = λ i j l k. absurd (omega arith);
}

-- 0 where two symbols are equal, 1 where they aren't
abbrev pub counted : ℕ → ℕ → ℕ
counted x y = cond (eqb x y) 0 1

pub counted_same : (x y : ℕ) → x ≡ y → counted x y ≡ 0
counted_same x y e = elim (eqb_tells x y) [ inl p ↦ rw p.0 refl | inr p ↦ absurd (p.1 e) ]

pub counted_other : (x y : ℕ) → x ≢ y → counted x y ≡ 1
counted_other x y o = elim (eqb_tells x y) [ inl p ↦ absurd (o p.1) | inr p ↦ rw p.0 refl ]

pub counted_most : (x y : ℕ) → counted x y ≤ 1
counted_most x y = grind (arith, cases_eq, counted_same, counted_other)

pub no_distance : (n : ℕ) (a b : ℕ → ℕ) → ((i : ℕ) → i < n → a i ≡ b i) → distance n a b ≡ 0
no_distance n a b same =
    sum_below-of_zeros n (λ i. counted (a i) (b i)) (λ i l. counted_same (a i) (b i) (same i l))

-- words that differ at few places agree at many
pub near_words_agree_at_selection : (n k : ℕ) (a b : ℕ → ℕ) → distance n a b + k ≤ n → Selection n k a b
unfolding sum_below
near_words_agree_at_selection n zero a b few = none_selected n a b
near_words_agree_at_selection zero (suc k) a b few = absurd (omega arith)
near_words_agree_at_selection (suc n) (suc k) a b few = elim (cases_eq (a n) (b n)) [
  | inl e ↦
      let z = counted_same (a n) (b n) e in
      with_last n k a b (near_words_agree_at_selection n k a b (omega (arith, few, z))) e
  | inr o ↦
      let z = counted_other (a n) (b n) o in
      selected_of_more n (suc k) a b (near_words_agree_at_selection n (suc k) a b (omega (arith, few, z)))
]

-- points at rising places fit
pub rising_fit : (m n k : ℕ) (x place : ℕ → ℕ) → ((i : ℕ) → i < k → place i < n)
    → ((i j : ℕ) → i < j → j < k → place i < place j) → HaveUnitDifferences m n x
    → HaveUnitDifferences m k (λ i. x (place i))
rising_fit m n k x place within rising fit = grind (arith, cases_lt)

-- two messages of k symbols whose words agree at k places
pub same_messages : (m k n : ℕ) (points a b u v : ℕ → ℕ) → HaveUnitDifferences m n points → IsEncoding m k n points a u
    → IsEncoding m k n points b v → distance n u v + k ≤ n → (i : ℕ) → i < k → Congruent m (a i) (b i)
same_messages m k n points a b u v fit is_u is_v few =
    let s = near_words_agree_at_selection n k u v few in
    same_coefficients m k a b (λ i. points (s.place i)) (rising_fit m n k points s.place s.within s.rising fit)
    (λ i l. let p = s.within i l in record {
      same = sym (is_u.symbol (s.place i) p) ∙ s.same i l ∙ is_v.symbol (s.place i) p;
    })

-- the words of two messages that differ ..
pub messages_apart : (m k n : ℕ) (points a b u v : ℕ → ℕ) → k ≤ n → HaveUnitDifferences m n points
    → IsEncoding m k n points a u → IsEncoding m k n points b v
    → (i : ℕ) → i < k → a i % m ≢ b i % m → n - k + 1 ≤ distance n u v
messages_apart m k n points a b u v few fit is_u is_v i l other = grind (arith, cases_lt, same_messages)

-- .. and two words that differ
pub words_apart : (m k n : ℕ) (points u v : ℕ → ℕ) → k ≤ n → HaveUnitDifferences m n points
    → IsErasureCodeword m k n points u → IsErasureCodeword m k n points v → 0 < distance n u v
    → n - k + 1 ≤ distance n u v
words_apart m k n points u v few fit is_u is_v differ =
    grind (arith, cases_lt, same_messages, no_distance, polynomial-congruent, mod_refl)

pub one_counted : (n e r : ℕ) (a b : ℕ → ℕ) → e ≡ distance n a b → r ≡ counted (a n) (b n)
    → e + r ≡ distance (n + 1) a b
one_counted n e r a b is_e is_r = omega (arith, is_e, is_r, sum_below-more (λ i. counted (a i) (b i)) n)

pub none_counted : (a b : ℕ → ℕ) → 0 ≡ distance 0 a b
none_counted a b = sym (sum_below-zero (λ i. counted (a i) (b i)))
