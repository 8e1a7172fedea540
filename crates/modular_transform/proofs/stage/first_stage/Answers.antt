use Rattle.modular_transform.proofs.PairLemmas.{pairs_below_next_index}
use Rattle.modular_transform.proofs.StripPowers.{next_running_power_congruent}
use Rattle.std.proofs.Common.{arith}
use Rattle.modular_transform.proofs.stage.first_stage.Goals as goal

pub columns-preserved : goal.columns-preserved
columns-preserved g c =
    let w = g.R.Reducer.value (g.R.Reducer.modulus c.args.r.now) (g.T.RingWord.number c.args.root.now) in
    let before = c.columns.invariant in
    record {
      checked = c.pair.ensures.checked;
      form = c.mul-power.ensures.checked;
      power = next_running_power_congruent w c.columns.i (g.met.R.Reducer.canonical c.args.r.now) before.power
          c.mul-power.ensures.form;
      done = pairs_below_next_index _ _ _ c.columns-test.true before.power before.done c.pair.ensures.done;
      count = omega (arith, before.count);
    }
