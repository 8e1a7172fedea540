use Rattle.num_modular.specs.Callers.{◌≡◌, ◌*◌, ℕ, ◌∙◌, sym, arith, mod-eq_of_lt, has_both}
use Rattle.ring_codes.proofs.NewtonForms.{has_of_residue}
use Rattle.ring_decoder.proofs.LocatorSums.{factor_none, none_of, residue_none}
use Rattle.num_modular.specs.NumberLaws.{mod_of_eq, mod_trans}
use Rattle.ring_decoder.proofs.search.joined.Goals as goal

pub returns-then-is_zero-clause-units : goal.returns-then-is_zero-clause-units
returns-then-is_zero-clause-units g c unit = (
  unit,
  λ other.
      let ring = g.R.Reducer in let m = ring.modulus c.args.r.now in let number = g.T.RingWord.number in
      let a : ℕ = ring.value m (number c.args.witness.now) in let b : ℕ = ring.value m (number c.args.value.now) in
      let e : b * a ≡ a * b = omega arith in
      let none = factor_none m b a unit (mod_trans (mod_of_eq e)
      (none_of m (a * b) (sym c.mul-product.ensures.value ∙ c.is_zero.ensures.0 c.if-is_zero.true))) in
      absurd (other (sym (mod-eq_of_lt c.requires.value.below) ∙ residue_none m b none)),
)

pub returns-else-is_zero-clause-units : goal.returns-else-is_zero-clause-units
returns-else-is_zero-clause-units g c unit =
    let ring = g.R.Reducer in let m = ring.modulus c.args.r.now in let number = g.T.RingWord.number in
    let a : ℕ = ring.value m (number c.args.witness.now) in let b : ℕ = ring.value m (number c.args.value.now) in
    let both = (has_both m a b).0 (has_of_residue m (a * b) _ c.mul-product.ensures.value unit) in
    (both.0, λ other. both.1)
