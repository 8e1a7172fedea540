use Rattle.std.proofs.Common.{◌<◌, length, subst, ◌∙◌, arith}
use Rattle.long_product.proofs.Bluestein.{same_modulus, written_entry_extends_prefix, entry_summed, one_is_zeroth_power}
use Rattle.long_product.proofs.Bluestein.{step_more}
use Rattle.long_product.proofs.any_length.fill_plain.Goals as goal

pub entries-init : goal.entries-init
entries-init c =
    let same = c.reciprocal_of-by.ensures in
    record {
      written = λ i l. absurd (omega arith);
      power = same_modulus _ c.args.m _ _ same c.remainder-power.ensures.value ∙ one_is_zeroth_power c.args.m c.args.g;
      residue = subst (λ m. c.remainder-power.result < m) same c.remainder-power.ensures.below;
    }

pub entries-preserved : goal.entries-preserved
entries-preserved c =
    let before = c.entries.invariant in
    let m = c.args.m in
    let same = c.reciprocal_of-by.ensures in
    record {
      written = written_entry_extends_prefix _ c.entries.out c.entries.j _ (omega arith) before.written
          (entry_summed m c.args.part c.args.g (length c.args.xs.now) c.entries.j _ _ _ before.power
          (same_modulus _ m _ _ same c.scaled_value.ensures));
      power = step_more _ _ _ _ _ before.power (same_modulus _ m _ _ same c.residue_of_product-power.ensures.value);
      residue = subst (λ m. c.residue_of_product-power.result < m) same c.residue_of_product-power.ensures.below;
    }
