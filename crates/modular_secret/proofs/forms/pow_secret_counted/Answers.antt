use Rattle.std.proofs.Common.{◌-◌, ◌^◌, sym, subst, arith, ◌<◌}
use Rattle.modular_reduced.proofs.FormLemmas.{answered_by_form}
use Rattle.modular_reduced.proofs.PowerForms.{power_start, power_end}
use Rattle.modular_secret.proofs.ExponentSteps.{half_below, none_left, power_step}
use Rattle.modular_secret.proofs.forms.pow_secret_counted.Goals as goal

pub digits-init : goal.digits-init
digits-init g c =
    record {
      so_far = power_start (g.met.R.Reducer.canonical c.args.reducer.now) c.requires.form c.one.ensures
          c.transform-product.ensures.form;
      below = subst (λ n. g.T.RingWord.number c.args.exp.now < 2 ^ n) (sym (omega arith)) c.requires.fits;
      count = omega arith;
    }

pub digits-preserved : goal.digits-preserved
digits-preserved g c =
    record {
      so_far = power_step (g.met.R.Reducer.canonical c.args.reducer.now) c.digits.invariant.so_far
          c.mul-longer.ensures.form c.sqr-power.ensures.form c.half-rest.ensures.value
          (λ e. c.chosen-product.ensures.all (c.odd_mask.ensures.all e))
          (λ e. c.chosen-product.ensures.none (c.odd_mask.ensures.none e));
      below = half_below _ _ _ c.digits._done (omega arith) c.digits.invariant.below c.half-rest.ensures.value;
      count = omega (arith, c.digits.invariant.count);
    }

pub returns : goal.returns
returns g c =
    let form =
    power_end c.digits.invariant.so_far (none_left _ _ c.digits._done c.digits.invariant.below (omega arith)) in
    let clauses = answered_by_form (g.met.R.Reducer.canonical c.args.reducer.now) form in
    record {
      form = form;
      checked = clauses.checked;
      value = clauses.value;
      count = omega (arith, c.digits.invariant.count);
    }
