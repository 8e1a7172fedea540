use Rattle.std.proofs.Common.{ℕ, ◌*◌, ◌/◌, ◌%◌, ◌^◌, ◌≡◌, ◌<◌, ◌∙◌, ap, arith, subst, sym}
use Rattle.std.proofs.lemmas.Nat.{div-mul-add}
use Rattle.modular_word.specs.Division.{IsDivision}
use Rattle.modular_reduced.proofs.ListSteps.{each_taken, held_values, held_checked}
use Rattle.modular_reduced.specs.Factors.{IsFactor}
use Rattle.modular_barrett.specs.Scaling.{scale, scaled_form, scaled_value}
use Rattle.modular_barrett.specs.ScaledForms.{scaled_canonical}
use Rattle.modular_barrett.proofs.ScaledLemmas.{divisor_is, stands_for, value_below}
use Rattle.modular_barrett.proofs.premul.PreMulInv2by1Reducer.scale_entries.Goals as goal

-- a factor with the quotient of its product with the base
is_factor_of_division : (b m w q r : ℕ) → w < m → IsDivision (b * w) m q r → IsFactor b m w q
is_factor_of_division b m w q r below h = grind (arith, div-mul-add)

pub multiply_by_factor-requires : goal.multiply_by_factor-requires
multiply_by_factor-requires g c =
    let n = g.T.RingWord.number in let b = g.T.PathWord.base in let ring = c.args.self.now in
    let d = n ring.divider.divisor in let value = n c.residue-value.result in
    let q = n c.div_rem_2by1-quotient.result.0 in let rest = n c.div_rem_2by1-quotient.result.1 in
    let dividend : g.T.PathWord.double_number c.merge.result ≡ b * value =
    omega (arith, c.merge.ensures.value, c.zero.ensures) in
    let division = subst (λ a. IsDivision a d q rest) dividend c.div_rem_2by1-quotient.ensures in
    subst (λ m. IsFactor b m value q) (sym c.divisor-divisor.ensures)
    (is_factor_of_division b d value q rest (value_below ring.scaling c.residue-value.ensures.form.below) division)

pub returns : goal.returns
returns g c =
    let ring = c.args.self.now in let is = ring.scaling in let canonical = scaled_canonical is in
    let number = g.T.RingWord.number in let w = g.T.RingWord.width in
    let m = number ring.divider.divisor / 2 ^ ring.shift in let value = scaled_value w in
    let factor = value m (number c.args.factor.now) in let by = number c.residue-value.result in
    let d = number c.divisor-divisor.result in
    let forms = c.multiply_by_factor.new.xs in
    let held = each_taken number (scaled_form w) value m (λ f. (f * by) % d) (λ v. (v * factor) % m) c.args.xs.now forms
    (λ f form.
    let first : f * by ≡ f * factor = ap (λ v. f * v) c.residue-value.ensures.value in
    let second : f * factor ≡ (value m f * scale w m) * factor = ap (λ v. v * factor) form.same in
    let whole : f * by ≡ (value m f * factor) * scale w m = omega (arith, first, second) in
    stands_for w m d (value m f * factor) ((f * by) % d) is.positive
    (c.divisor-divisor.ensures ∙ divisor_is is) (ap (λ v. v % d) whole))
    c.requires.checked c.multiply_by_factor.auto.xs c.multiply_by_factor.ensures in
    record {
      entries = held;
      values = λ i l. held_values number forms _ i canonical held (omega (arith, l, c.multiply_by_factor.auto.xs));
      checked = held_checked number forms _ canonical held;
    }
