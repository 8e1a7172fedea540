use Rattle.std.proofs.Common.{◌≡◌, ℕ, ◌+◌, ◌-◌, ◌%◌, ◌^◌, ◌<◌, ◌≤◌, ◌↔◌, IsTrue, ◌∙◌, sym, subst, arith}
use Rattle.std.proofs.Math.Nat.{mod-eq_of_lt}
use Rattle.std.proofs.lemmas.Bool.{false≢true}
use Rattle.num_modular.specs.Inverses.{HasInverse}
use Rattle.long_product.proofs.Bluestein.{same_modulus, step_more}
use Rattle.long_product.proofs.RootsOfOrder.{residue_is_first_power, units_none, units_more, root_found}
use Rattle.long_product.proofs.RootsOfOrder.{difference_product_has_inverse}
use Rattle.long_product.proofs.RootsOfOrder.{has_inverse_iff_found}
use Rattle.long_product.proofs.Orders.{order_below}
use Rattle.long_product.proofs.any_length.is_root_of_order.Goals as goal

pub exponents-init : goal.exponents-init
exponents-init c =
    let m = c.args.m in
    let same = c.reciprocal_of-by.ensures in
    record {
      power = same_modulus _ m _ _ same c.remainder-power.ensures.value ∙ residue_is_first_power m c.args.g;
      residue = subst (λ v. c.remainder-power.result < v) same c.remainder-power.ensures.below;
      units = units_none m c.args.g c.remainder-differences.result (omega arith)
          (same_modulus _ m _ _ same c.remainder-differences.ensures.value);
    }

pub exponents-preserved : goal.exponents-preserved
exponents-preserved c =
    let m = c.args.m in
    let before = c.exponents.invariant in
    let same = c.reciprocal_of-by.ensures in
    record {
      power = step_more _ _ _ _ _ before.power (same_modulus _ m _ _ same c.residue_of_product-power.ensures.value);
      residue = subst (λ v. c.residue_of_product-power.result < v) same c.residue_of_product-power.ensures.below;
      units = units_more m c.args.g _ _ _ _ _ (omega arith) c.inverse_product_laws.ensures.both before.power
          (same_modulus _ m _ _ same c.remainder-difference.ensures.value)
          (same_modulus _ m _ _ same c.residue_of_product-differences.ensures.value) before.units;
    }

pub returns-then-n-m : goal.returns-then-n-m
returns-then-n-m c = (
  λ t. absurd (false≢true t),
  λ h. let l = order_below c.args.m c.args.g c.args.n (omega arith) h.1 in absurd (omega (arith, l)),
)

pub returns-then-powm-ne1 : goal.returns-then-powm-ne1
returns-then-powm-ne1 c =
    let more : 1 < c.args.m = omega arith in
    let one = mod-eq_of_lt more in (
      λ t. absurd (false≢true t),
      λ h. absurd (c.if-powm-ne1.true (c.powm.ensures ∙ h.1.whole_turn ∙ one)),
    )

pub returns : goal.returns
returns c =
    let m = c.args.m in
    let g = c.args.g in
    let a = c.exponents.differences in
    let modulus : 1 ≤ m = omega arith in
    let more : 1 < m = omega arith in
    let one = mod-eq_of_lt more in
    let done : c.exponents._done ≡ c.args.n = omega arith in
    let power = subst (λ n. c.exponents.power ≡ g ^ n % m) done c.exponents.invariant.power in
    let units = subst (λ n. HasInverse m a ↔ ((e : ℕ) → 1 ≤ e → e < n → HasInverse m (g ^ e + (m - 1)))) done
    c.exponents.invariant.units in
    let tells = has_inverse_iff_found m a c.invm.result c.invm.ensures in (
      λ t. (
        modulus,
        root_found m g c.args.n c.exponents.power a modulus (omega arith) power units
            (power ∙ sym c.powm.ensures ∙ c.if-powm-ne1.false ∙ sym one) (tells.1 (subst IsTrue c.is_some.ensures t)),
      ),
      λ h. subst IsTrue (sym c.is_some.ensures) (tells.0 (difference_product_has_inverse m g c.args.n a h.0 units h.1)),
    )
