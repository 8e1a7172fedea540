use Rattle.std.proofs.Common.{arith, ◌∙◌}
use Rattle.long_product.proofs.Bluestein.{written_entry_extends_prefix, below_more, first_chirp_power_is_residue}
use Rattle.long_product.proofs.Bluestein.{next_chirp_power_is_residue, one_is_zeroth_power, step_more}
use Rattle.long_product.proofs.any_length.write_powers.Goals as goal

pub powers-init : goal.powers-init
powers-init c = record {
  written = λ i l. absurd (omega arith);
  below = λ i l. absurd (omega arith);
  power = c.remainder-power.ensures.value ∙ first_chirp_power_is_residue _ c.args.first c.args.g;
  power_below = c.remainder-power.ensures.below;
  step = c.remainder-step.ensures.value ∙ one_is_zeroth_power _ c.args.g;
  step_below = c.remainder-step.ensures.below;
}

pub powers-preserved : goal.powers-preserved
powers-preserved c =
    let before = c.powers.invariant in
    record {
      written = written_entry_extends_prefix _ c.powers.out c.powers.k _ (omega arith) before.written before.power;
      below = below_more _ c.powers.out c.powers.k _ (omega arith) before.below before.power_below;
      power = next_chirp_power_is_residue _ _ _ _ _ _ _ before.power before.step
          c.residue_of_product-power.ensures.value;
      power_below = c.residue_of_product-power.ensures.below;
      step = step_more _ c.args.g c.powers.k _ _ before.step c.residue_of_product-step.ensures.value;
      step_below = c.residue_of_product-step.ensures.below;
    }
