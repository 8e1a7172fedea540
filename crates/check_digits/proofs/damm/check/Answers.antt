use Rattle.std.proofs.Common.{◌≤◌, subst, get_or, sym, arith}
use Rattle.check_digits.proofs.DammDigits.{damm_step, product_small}
use Rattle.check_digits.proofs.States.{state_first, state_more}
use Rattle.check_digits.proofs.damm.check.Goals as goal

pub digits-init : goal.digits-init
digits-init c = record { value = sym (state_first damm_step 0 _); small = omega arith }

pub digits-preserved : goal.digits-preserved
digits-preserved c = record {
  value = grind (arith, state_more, damm_step);
  small = subst (λ n. n ≤ 9) (sym c.product-state.ensures)
      (product_small c.digits.state (get_or c.args.word.now c.digits.digit-index 0) c.digits.invariant.small
      (c.requires c.digits.digit-index 0 c.digits-test.true));
}
