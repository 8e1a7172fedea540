-- The steps of a power, over any reducer's forms. Each reducer's `pow` cites these.
use Rattle.std.proofs.Common.{◌≡◌, ◌≢◌, ℕ, ◌*◌, ◌/◌, ◌%◌, ◌^◌, sym, ◌∙◌, ap, subst}
use Rattle.std.proofs.lemmas.Nat.{mul-mod_first}
use Rattle.std.proofs.Math.Nat.{one-mul, pow-succ', mod-eq_of_lt}
use Rattle.modular_word.proofs.Powers.{pow-one, odd_step_keeps_power, even_step_keeps_power, step_end}
use Rattle.modular_reduced.specs.Forms.{Represents, IsForm, IsCanonical}
use Rattle.modular_reduced.proofs.PowerSoFar.{PowerSoFar}
use Rattle.modular_reduced.proofs.FormLemmas.{form_of_value, form_as}

pub power_start : {form value : ℕ → ℕ → ℕ} {width m n one base exp : ℕ}
    → IsCanonical form value width m → IsForm form value m base → n ≡ 1 → Represents form m one (n % m)
    → PowerSoFar form value m one base exp (value m base ^ exp % m)
power_start {form} {value} {width} {m} {n} {one} {base} {exp} canonical is is_one stands = record {
  product_form = form_of_value canonical stands;
  power_form = is;
  work = ap (λ v. v * value m base ^ exp % m) (canonical.one_value one (n % m) stands) ∙ mul-mod_first n (value m base
      ^ exp) m ∙ ap (λ v. v * value m base ^ exp % m) is_one ∙ ap (λ v. v % m) (one-mul (value m base ^ exp));
}

pub power_odd_step : {form value : ℕ → ℕ → ℕ} {width m product power rest wanted product' power' rest' : ℕ}
    → IsCanonical form value width m → PowerSoFar form value m product power rest wanted → rest % 2 ≡ 1
    → Represents form m product' (value m product * value m power % m)
    → Represents form m power' (value m power * value m power % m) → rest' ≡ rest / 2
    → PowerSoFar form value m product' power' rest' wanted
power_odd_step {form} {value} {width} {m} {product} {power} {rest} {wanted} {product'} {power'}
    {rest'} canonical so_far odd h k half = record {
      product_form = form_of_value canonical h;
      power_form = form_of_value canonical k;
      work = odd_step_keeps_power m (value m product) (value m power) rest (value m product') (value m power') rest'
          wanted
          (canonical.one_value _ _ h) (canonical.one_value _ _ k) half odd so_far.work;
    }

pub power_even_step : {form value : ℕ → ℕ → ℕ} {width m product power rest wanted power' rest' : ℕ}
    → IsCanonical form value width m → PowerSoFar form value m product power rest wanted → rest % 2 ≢ 1
    → Represents form m power' (value m power * value m power % m) → rest' ≡ rest / 2
    → PowerSoFar form value m product power' rest' wanted
power_even_step {form} {value} {width} {m} {product} {power} {rest} {wanted} {power'}
    {rest'} canonical so_far even k half = record {
      product_form = so_far.product_form;
      power_form = form_of_value canonical k;
      work = even_step_keeps_power _ _ _ rest (value m power') rest' wanted (canonical.one_value _ _ k) half even
          so_far.work;
    }

pub power_end : {form value : ℕ → ℕ → ℕ} {m product power rest wanted : ℕ}
    → PowerSoFar form value m product power rest wanted → rest ≡ 0 → Represents form m product wanted
power_end {form} {value} {m} {product} {power} {rest} {wanted} so_far ended =
    form_as so_far.product_form
    (step_end m (value m product) (value m power) rest wanted ended so_far.product_form.below so_far.work)

-- a power of one factor, and of two
two_factors : (p : ℕ) → p ^ 2 ≡ p * p
two_factors p = pow-succ' p 1 ∙ ap (λ v. p * v) (pow-one p)

pub base_represents_first_power : {form value : ℕ → ℕ → ℕ} {m base exp : ℕ}
    → IsForm form value m base → exp ≡ 1 → Represents form m base (value m base ^ exp % m)
base_represents_first_power {form} {value} {m} {base} {exp} is one =
    form_as is
    (sym (ap (λ e. value m base ^ e % m) one ∙ ap (λ v. v % m) (pow-one (value m base)) ∙ mod-eq_of_lt is.below))

pub power_of_two : {form : ℕ → ℕ → ℕ} {m f : ℕ} (v exp : ℕ)
    → exp ≡ 2 → Represents form m f (v * v % m) → Represents form m f (v ^ exp % m)
power_of_two {form} {m} {f} v exp two stands =
    subst (λ k. Represents form m f (k % m)) (sym (two_factors v) ∙ ap (λ e. v ^ e) (sym two)) stands
