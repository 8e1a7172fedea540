-- The places at which a list of numbers is 0, in their order.
use Rattle.std.proofs.Common.{◌≡◌, ◌≢◌, ℕ, zero, suc, ◌+◌, ◌*◌, ◌^◌, ◌<◌, cond, eqb, ap, sym, ◌∙◌, arith}
use Rattle.std.proofs.Common.{inl, inr, add-one, refl}
use Rattle.std.proofs.lemmas.Bool.{cases_eq, cases_lt, eq-eqb, ne_eqb}
use Rattle.num_modular.specs.Congruence.{Congruent}
use Rattle.num_modular.specs.Inverses.{HasInverse}
use Rattle.num_modular.specs.NumberLaws.{mod_of_eq, mod_sym, mod_trans, sum_below-zero, sum_below-suc, sum_below-more}
use Rattle.num_modular.specs.NumberLaws.{sum_below-congruent}
use Rattle.num_modular.specs.Polynomials.{HaveUnitDifferences}
use Rattle.num_modular.specs.Sums.{sum_below}
use Rattle.ring_codes.proofs.Distances.{counted, counted_same, counted_other, extended_sequence, at_end, before_end}
use Rattle.ring_codes.specs.Erasure.{distance}
use Rattle.ring_decoder.specs.ErrorPatterns.{zeros, AreChosen}
use Rattle.ring_codes.proofs.Congruences.{mod_of_combination, mod_times}

-- 1 at 0, otherwise 0
abbrev one_at_zero : ℕ → ℕ
one_at_zero v = cond (eqb v 0) 1 0

-- a choice by a number that is 0, or isn't
pub chosen_zero : (v a b : ℕ) → v ≡ 0 → cond (eqb v 0) a b ≡ a
chosen_zero v a b e = ap (λ t. cond t a b) (eq-eqb v 0 e)

pub chosen_nonzero : (v a b : ℕ) → v ≢ 0 → cond (eqb v 0) a b ≡ b
chosen_nonzero v a b o = ap (λ t. cond t a b) (ne_eqb v 0 o)

pub zeros-none : (z : ℕ → ℕ) → zeros 0 z ≡ 0
zeros-none z = sum_below-zero (λ i. one_at_zero (z i))

pub zeros-suc : (n : ℕ) (z : ℕ → ℕ) → z n ≡ 0 → zeros (suc n) z ≡ zeros n z + 1
zeros-suc n z e = sum_below-suc n (λ i. one_at_zero (z i)) ∙ ap (λ v. zeros n z + v) (chosen_zero (z n) 1 0 e)

pub zeros-same : (n : ℕ) (z : ℕ → ℕ) → z n ≢ 0 → zeros (suc n) z ≡ zeros n z
zeros-same n z o = omega (arith, sum_below-suc n (λ i. one_at_zero (z i)), chosen_nonzero (z n) 1 0 o)

pub zero_increments_zero_count : (n : ℕ) (z : ℕ → ℕ) → z n ≡ 0 → zeros (n + 1) z ≡ zeros n z + 1
zero_increments_zero_count n z e = ap (λ k. zeros k z) (add-one n) ∙ zeros-suc n z e

pub nonzero_keeps_zero_count : (n : ℕ) (z : ℕ → ℕ) → z n ≢ 0 → zeros (n + 1) z ≡ zeros n z
nonzero_keeps_zero_count n z o = ap (λ k. zeros k z) (add-one n) ∙ zeros-same n z o

-- a 0 counts for each later place
pub zeros_before : (i n : ℕ) (z : ℕ → ℕ) → i < n → z i ≡ 0 → zeros i z < zeros n z
zeros_before i zero z l e = absurd (omega arith)
zeros_before i (suc n) z l e = grind (arith, cases_eq, zeros-suc n z, zeros-same n z, zeros_before i n z)

pub zeros_others : (n : ℕ) (z : ℕ → ℕ) → zeros n z + distance n z (λ i. 0) ≡ n
zeros_others zero z = omega (arith, zeros-none z, sum_below-zero (λ i. counted (z i) 0))
zeros_others (suc n) z =
    let more = sum_below-suc n (λ i. counted (z i) 0) in
    grind (arith, cases_eq (z n) 0, zeros_others n z, zeros-suc n z, zeros-same n z, more, counted_same, counted_other)

-- the place of a 0 by its number
pub zero_of_rank_exists : (n k : ℕ) (z : ℕ → ℕ) → k < zeros n z → (i : ℕ) × (i < n) × (z i ≡ 0) × (zeros i z ≡ k)
zero_of_rank_exists zero k z l = absurd (omega (arith, l, zeros-none z))
zero_of_rank_exists (suc n) k z l = elim (cases_lt k (zeros n z)) [
  | inl before ↦ let r = zero_of_rank_exists n k z before in (r.0, omega (arith, r.1), r.2, r.3)
  | inr last ↦
      elim (cases_eq (z n) 0) [
        | inl e ↦ (n, omega arith, e, omega (arith, l, last, zeros-suc n z e))
        | inr o ↦ absurd (omega (arith, l, last, zeros-same n z o))
      ]
]

-- one place more, that is chosen, or isn't
pub chosen_more : (n : ℕ) (z f g h : ℕ → ℕ) → AreChosen n z f g → h (zeros n z) ≡ f n
    → ((k : ℕ) → k ≢ zeros n z → h k ≡ g k) → AreChosen (n + 1) z f h
chosen_more n z f g h c last same = record {
  at = λ i l here. grind (arith, cases_eq i n, zeros_before i n z, c.at i, same (zeros i z), last);
}

pub chosen_kept : (n : ℕ) (z f g : ℕ → ℕ) → AreChosen n z f g → z n ≢ 0 → AreChosen (n + 1) z f g
chosen_kept n z f g c other = record { at = λ i l here. grind (arith, cases_eq i n, c.at i) }

-- a list of the chosen numbers
pub chosen_values_exist : (n : ℕ) (z f : ℕ → ℕ) → (g : ℕ → ℕ) × AreChosen n z f g
chosen_values_exist zero z f = (f, record { at = λ i l e. absurd (omega arith) })
chosen_values_exist (suc n) z f =
    let p = chosen_values_exist n z f in let before = p.1.at in let K : ℕ = zeros n z in (
      extended_sequence K (f n) p.0,
      record {
        at = λ i l e.
            grind (arith, cases_eq i n, before i, zeros_before i n z, at_end K (f n) p.0, before_end K (f n) p.0);
      },
    )

-- the chosen numbers by their number
pub chosen_is : (n k : ℕ) (z f g : ℕ → ℕ) → AreChosen n z f g → (l : k < zeros n z)
    → f (zero_of_rank_exists n k z l).0 ≡ g k
chosen_is n k z f g c l = let r = zero_of_rank_exists n k z l in sym (c.at r.0 r.1 r.2) ∙ ap g r.3

pub chosen_fit : (m n : ℕ) (z x g : ℕ → ℕ) → AreChosen n z x g → HaveUnitDifferences m n x
    → HaveUnitDifferences m (zeros n z) g
chosen_fit m n z x g c fit = record {
  unit = λ i j l d other.
      let p = zero_of_rank_exists n i z l in let q = zero_of_rank_exists n j z d in
      rw (← chosen_is n i z x g c l, ← chosen_is n j z x g c d)
      (fit.unit p.0 q.0 p.1 q.1 (λ e. other (sym p.3 ∙ ap (λ k. zeros k z) e ∙ q.3)));
}

pub chosen_units : (m n : ℕ) (z v g : ℕ → ℕ) → AreChosen n z v g → ((i : ℕ) → i < n → HasInverse m (v i))
    → (k : ℕ) → k < zeros n z → HasInverse m (g k)
chosen_units m n z v g c unit k l = let r = zero_of_rank_exists n k z l in rw (← chosen_is n k z v g c l) (unit r.0 r.1)

-- the sum of the chosen numbers
pub chosen_sum : (n : ℕ) (z f g : ℕ → ℕ) → AreChosen n z f g
    → sum_below (zeros n z) g ≡ sum_below n (λ i. cond (eqb (z i) 0) (f i) 0)
chosen_sum zero z f g c = rw (zeros-none z) (sum_below-zero g ∙ sym (sum_below-zero _))
chosen_sum (suc n) z f g c =
    let i = chosen_sum n z f g (record { at = λ i l. c.at i (omega arith) }) in
    let t = sum_below-suc n (λ i. cond (eqb (z i) 0) (f i) 0) in let more = sum_below-more g (zeros n z) in
    let last = c.at n (omega arith) in let here = chosen_zero (z n) (f n) 0 in let other =
    chosen_nonzero (z n) (f n) 0 in
    grind (arith, cases_eq (z n) 0, i, t, more, last, zeros-suc n z, zeros-same n z, here, other)

-- p and w list the q points and weights where z is 0
pub record AreChosenPoints (n q : ℕ) (z x v p w : ℕ → ℕ) : Type 0 where
  pub count : q ≡ zeros n z
  pub points : AreChosen n z x p
  pub weights : AreChosen n z v w

-- their power sums are those of all points, where the other errors are 0
pub chosen_powers : {n q : ℕ} {z x v p w : ℕ → ℕ} (m h : ℕ) (e d : ℕ → ℕ) → AreChosenPoints n q z x v p w
    → AreChosen n z e d → ((i : ℕ) → i < n → z i ≢ 0 → Congruent m (e i) 0)
    → Congruent m (sum_below q (λ k. w k * d k * p k ^ h)) (sum_below n (λ i. v i * e i * x i ^ h))
chosen_powers {n} {q} {z} {x} {v} {p} {w} m h e d chosen errors none =
    let f : ℕ → ℕ = λ i. v i * e i * x i ^ h in
    rw chosen.count (mod_trans
    (mod_of_eq (chosen_sum n z f (λ k. w k * d k * p k ^ h) (record {
      at = λ i l here. rw (chosen.weights.at i l here, errors.at i l here, chosen.points.at i l here) refl;
    })))
    (sum_below-congruent n (λ i. cond (eqb (z i) 0) (f i) 0) f
    (λ i l. elim (cases_eq (z i) 0) [
      | inl here ↦ mod_of_eq (chosen_zero (z i) (f i) 0 here)
      | inr other ↦ mod_of_combination (mod_times (v i * x i ^ h) (mod_sym (none i l other)))
          (omega (arith, chosen_nonzero (z i) (f i) 0 other))
    ])))
