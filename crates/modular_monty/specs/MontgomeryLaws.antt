-- Laws of Montgomery's representation modulo odd numbers: each value has exactly one form, and each form exactly
-- one value. Proofs that the impls declare; the names are the library's own words.
use Rattle.std.proofs.Common.{◌≡◌, ℕ, suc, zero, ◌+◌, ◌*◌, ◌/◌, ◌%◌, ◌^◌, ◌<◌, sym, ap, ◌∙◌, arith, cond, eqb}
use Rattle.std.proofs.Math.Nat.{mod-lt, mod-eq_of_lt}
use Rattle.std.proofs.lemmas.Bool.Decides.{nat_tests}
use Rattle.modular_word.proofs.Congruence.{same_without_unit}
use Rattle.modular_word.proofs.ReductionSteps.{base_inverse}
use Rattle.modular_reduced.specs.Forms.{Represents, IsCanonical}
use Rattle.modular_monty.specs.Values.{value_below}
use Rattle.modular_monty.specs.Montgomery.{montgomery_form, montgomery_value, IsOddRing}

-- one number more is searched
found_step : (form : ℕ → ℕ) (b v f rest : ℕ) → ((w : ℕ) → w < suc b → form w ≡ f → w ≡ v)
    → (v < b → rest ≡ v) → v < suc b → form v ≡ f
    → cond (eqb (form b) f) b rest ≡ v
found_step form b v f rest only ih h e =
    let o = only b (omega arith) in
    grind (arith, nat_tests)

-- the only number below the bound whose form is f
pub value_below-found : (form : ℕ → ℕ) (bound v f : ℕ) → ((w : ℕ) → w < bound → form w ≡ f → w ≡ v)
    → v < bound → form v ≡ f → value_below form bound f ≡ v
unfolding value_below
value_below-found form zero v f only h e = absurd (omega arith)
value_below-found form (suc b) v f only h e =
    found_step form b v f (value_below form b f) only
    (λ k. value_below-found form b v f (λ w l. only w (omega arith)) k e) h e

module _ {w b m i square : ℕ} (r : IsOddRing w b m i square) where
  -- an odd modulus is not 0
  pub positive : 0 < m
  positive = let odd = r.odd in omega arith

  -- so the base cancels modulo m
  pub base_cancels : (x y : ℕ) → (x * b) % m ≡ (y * b) % m → x % m ≡ y % m
  base_cancels x y e =
      same_without_unit m x y b ((m * i + 1) / b) (base_inverse b m i (omega (arith, r.fits)) r.inverse) e

  -- values with the same form are equal
  form_injective : (v x : ℕ) → v < m → x < m → montgomery_form w m x ≡ montgomery_form w m v → x ≡ v
  form_injective v x hv hx e =
      let by_base : (x * b) % m ≡ (v * b) % m =
      ap (λ n. (x * n) % m) r.base ∙ e ∙ ap (λ n. (v * n) % m) (sym r.base) in
      sym (mod-eq_of_lt hx) ∙ base_cancels x v by_base ∙ mod-eq_of_lt hv

  -- the value of the form of v is v
  pub value_of_form : {f v : ℕ} → Represents (montgomery_form w) m f v → montgomery_value w m f ≡ v
  value_of_form {f} {v} h =
      value_below-found (montgomery_form w m) m v f
      (λ x l e. form_injective v x h.below l (e ∙ h.same)) h.below (sym h.same)

  -- each value has exactly one form, a word, and each form exactly one value
  pub montgomery_canonical : IsCanonical (montgomery_form w) (montgomery_value w) w m
  montgomery_canonical = record {
    positive = positive;
    one_value = λ f v h. value_of_form h;
    fits = λ v h. omega (arith, mod-lt (v * 2 ^ w) (positive), r.fits, r.base);
  }
