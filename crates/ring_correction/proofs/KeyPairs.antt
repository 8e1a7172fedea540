-- The steps of a pair of polynomials that solves the key equation: its multiplication by X - a, and the combination of
-- two pairs that removes their discrepancies.
use Rattle.std.proofs.Common.{◌≡◌, ℕ, zero, suc, ◌+◌, ◌*◌, ◌^◌, ◌<◌, ◌≤◌, ap, ◌∙◌, arith, refl, inl, inr}
use Rattle.std.proofs.Common.{◌-◌, List, length, take, drop, take_all, length-drop}
use Rattle.std.proofs.lemmas.Bool.{cases_eq}
use Rattle.num_modular.specs.Callers.{has_both}
use Rattle.num_modular.specs.Congruence.{Congruent}
use Rattle.num_modular.specs.Inverses.{HasInverse}
use Rattle.num_modular.specs.NumberLaws.{mod_of_eq, mod_sym, mod_trans, mod_add}
use Rattle.num_modular.specs.Sums.{sum_below}
use Rattle.num_modular.specs.Polynomials.{polynomial_at}
use Rattle.ring_codes.proofs.NearestWords.{with_multiple, unit_alike}
use Rattle.ring_codes.specs.Shifts.{shifted}
use Rattle.ring_correction.specs.KeyEquations.{IsKeyPair, HasKeyPair}
use Rattle.ring_codes.proofs.Congruences.{mod_of_combination, mod_times, left_alone}
use Rattle.ring_codes.proofs.Shifts.{shifted-values}
use Rattle.ring_codes.proofs.Roots.{scaled_polynomial}

-- the value of the product by X - a, where the last coefficient is 0
raised_value : (m n a X : ℕ) (f g : ℕ → ℕ) → ((l : ℕ) → l < n → Congruent m (g l + a * f l) (shifted f l))
    → ((l : ℕ) → l < n → n ≤ suc l → Congruent m (f l) 0)
    → Congruent m (polynomial_at n g X + a * polynomial_at n f X) (X * polynomial_at n f X)
unfolding sum_below
raised_value m zero a X f g each last = mod_of_eq (omega arith)
raised_value m (suc n) a X f g each last =
    mod_of_combination (mod_add (with_multiple m (suc n) a X g f (shifted f) each)
    (mod_times X (mod_times (X ^ n) (mod_sym (last n (omega arith) (omega arith))))))
    (omega (arith, shifted-values n X f))

-- its coefficients that are 0, and its first one by order that isn't
raised_none : (m a l : ℕ) (f g : ℕ → ℕ) → Congruent m (g l + a * f l) (shifted f l)
    → ((j : ℕ) → j ≤ l → l ≤ suc j → Congruent m (f j) 0) → Congruent m (g l) 0
unfolding shifted
raised_none m a zero f g is none = grind (arith, left_alone)
raised_none m a (suc l) f g is none = grind (arith, left_alone, mod_trans)

raised_unit : (m a l : ℕ) (f g : ℕ → ℕ) → Congruent m (g (suc l) + a * f (suc l)) (shifted f (suc l))
    → Congruent m (f (suc l)) 0 → HasInverse m (f l) → HasInverse m (g (suc l))
unfolding shifted
raised_unit m a l f g is none unit = unit_alike m _ _ (mod_sym (left_alone m _ _ _ _ is none)) unit

-- the product by X - a
pub raised_pair_is_key_pair : (m k c d i u v a : ℕ) (x y n e f g : ℕ → ℕ) → d + k ≡ c + 1 → v ≡ u + 2 → x i ≡ a
    → ((l : ℕ) → l < c → Congruent m (f l + a * n l) (shifted n l))
    → ((l : ℕ) → l < d → Congruent m (g l + a * e l) (shifted e l))
    → HasKeyPair m k c d i u x y n e → HasKeyPair m k c d (i + 1) v x y f g
raised_pair_is_key_pair m k c d i u v a x y n e f g lengths next point each_n each_e own room =
    let pair = own (omega arith) in let behind_n = pair.leads.numerator_behind in let behind_e =
    pair.leads.locator_behind in
    let value_n = λ (X : ℕ). raised_value m c a X n f each_n (λ l b s. behind_n l b (omega arith)) in
    let value_e = λ (X : ℕ). raised_value m d a X e g each_e (λ l b s. behind_e l b (omega arith)) in
    record {
      solves = λ j l. elim (cases_eq j i) [
        | inl s ↦ rw (ap x s ∙ point)
            (mod_of_combination (mod_add (value_n a) (mod_times (y j) (mod_sym (value_e a)))) (omega arith))
        | inr other ↦
            let is = pair.solves j (omega arith) in
            mod_of_combination (mod_add (value_n (x j)) (mod_add (mod_times (y j) (mod_sym (value_e (x j))))
            (mod_add (mod_times a (mod_sym is)) (mod_times (x j) is)))) (omega arith)
      ];
      leads = record {
        numerator_behind = λ l b s. raised_none m a l n f (each_n l b) (λ j t o. behind_n j (omega arith)
            (omega arith));
        locator_behind = λ l b s. raised_none m a l e g (each_e l b) (λ j t o. behind_e j (omega arith) (omega arith));
        unit = elim pair.leads.unit [
          | inl (l, at, unit) ↦ inl (
            suc l,
            omega arith,
            raised_unit m a l n f (each_n _ (omega arith)) (behind_n _ (omega arith) (omega arith)) unit,
          )
          | inr (l, at, unit) ↦ inr (
            suc l,
            omega arith,
            raised_unit m a l e g (each_e _ (omega arith)) (behind_e _ (omega arith) (omega arith)) unit,
          )
        ];
      };
    }

eliminated_none : {m a b c : ℕ} (p q : ℕ) → Congruent m (a + q * b) (p * c) → Congruent m b 0 → Congruent m c 0
    → Congruent m a 0
eliminated_none p q is none here =
    mod_of_combination (mod_add is (mod_add (mod_times q (mod_sym none)) (mod_times p here))) (omega arith)

eliminated_unit : {m p a b c : ℕ} (q : ℕ) → Congruent m (a + q * b) (p * c) → Congruent m b 0 → HasInverse m p
    → HasInverse m c → HasInverse m a
eliminated_unit {m} q is none unit own =
    unit_alike m _ _ (mod_sym (left_alone m _ _ _ _ is none)) ((has_both m _ _).1 (unit, own))

-- p times a pair less q times the pivot, p and q being the discrepancies of the pivot and of the pair
pub eliminated_pair_is_key_pair : (m k c d i u v p q : ℕ) (x y h g n e f t : ℕ → ℕ) → d + k ≡ c + 1 → u < v
    → HasInverse m p
    → ((l : ℕ) → l < c → Congruent m (f l + q * h l) (p * n l))
    → ((l : ℕ) → l < d → Congruent m (t l + q * g l) (p * e l))
    → Congruent m (p + y i * polynomial_at d g (x i)) (polynomial_at c h (x i))
    → Congruent m (q + y i * polynomial_at d e (x i)) (polynomial_at c n (x i))
    → HasKeyPair m k c d i u x y h g → HasKeyPair m k c d i v x y n e → HasKeyPair m k c d (i + 1) v x y f t
eliminated_pair_is_key_pair m k c d i u v p q x y h g n e f t lengths less inverse each_n each_e is_p is_q has_pivot
    has_own room =
    let pivot = has_pivot (omega arith) in let own = has_own room in
    let behind_h = pivot.leads.numerator_behind in let behind_g = pivot.leads.locator_behind in
    let at_n = λ (X : ℕ). mod_trans (with_multiple m c q X f h (λ l. p * n l) each_n)
    (mod_of_eq (scaled_polynomial c p n X)) in
    let at_e = λ (X : ℕ). mod_trans (with_multiple m d q X t g (λ l. p * e l) each_e)
    (mod_of_eq (scaled_polynomial d p e X)) in
    record {
      solves = λ j l. elim (cases_eq j i) [
        | inl s ↦ rw s (mod_of_combination (mod_add (at_n (x i)) (mod_add (mod_times (y i) (mod_sym (at_e (x i))))
            (mod_add (mod_times q is_p) (mod_times p (mod_sym is_q))))) (omega arith))
        | inr other ↦
            let before : j < i = omega arith in
            mod_of_combination (mod_add (at_n (x j)) (mod_add (mod_times (y j) (mod_sym (at_e (x j))))
            (mod_add (mod_times q (mod_sym (pivot.solves j before))) (mod_times p (own.solves j before)))))
            (omega arith)
      ];
      leads = record {
        numerator_behind = λ l b s.
            eliminated_none p q (each_n l b) (behind_h l b (omega arith)) (own.leads.numerator_behind l b s);
        locator_behind = λ l b s. eliminated_none p q (each_e l b) (behind_g l b (omega arith))
            (own.leads.locator_behind l b s);
        unit = elim own.leads.unit [
          | inl (l, at, unit) ↦ let b : l < c = omega arith in
              inl (l, at, eliminated_unit q (each_n l b) (behind_h l b (omega arith)) inverse unit)
          | inr (l, at, unit) ↦ let b : l < d = omega arith in
              inr (l, at, eliminated_unit q (each_e l b) (behind_g l b (omega arith)) inverse unit)
        ];
      };
    }

-- a pair without a discrepancy solves the key equation there too
pub kept_pair : {m k c d i u p : ℕ} {x y n e : ℕ → ℕ} → p ≡ 0
    → Congruent m (p + y i * polynomial_at d e (x i)) (polynomial_at c n (x i))
    → HasKeyPair m k c d i u x y n e → HasKeyPair m k c d (i + 1) u x y n e
kept_pair none is own room = grind (arith, cases_eq, mod_sym)

-- what a slice from c on reads
pub rest_whole : {T : Type 0} (forms : List T) (c : ℕ) → take (length forms - c) (drop c forms) ≡ drop c forms
rest_whole forms c = take_all (length forms - c) (drop c forms) (omega (arith, length-drop c forms))
