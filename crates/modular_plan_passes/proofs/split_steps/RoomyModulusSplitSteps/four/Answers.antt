use Rattle.std.proofs.Common.{arith, refl}
use Rattle.modular_word.proofs.Congruence.{mod_refl}
use Rattle.modular_plan_passes.proofs.PairSteps.{split_of_congruent_values, reduced_by}
use Rattle.modular_plan_passes.proofs.Fours.{four_of_pairs}
use Rattle.modular_plan_passes.proofs.split_steps.RoomyModulusSplitSteps.four.Goals as goal

pub returns : goal.returns
returns g c = record {
  below = record {
    first = omega (
      arith,
      c.spread-a.ensures.below,
      c.spread-e.ensures.below,
      c.reduced.ensures.below,
      c.eightfold.ensures,
    );
    second = omega (
      arith,
      c.spread-a.ensures.most,
      c.spread-e.ensures.below,
      c.reduced.ensures.below,
      c.eightfold.ensures,
    );
    third = omega (
      arith,
      c.spread-c.ensures.below,
      c.spread-e.ensures.most,
      c.reduced.ensures.below,
      c.eightfold.ensures,
    );
    fourth = omega (
      arith,
      c.spread-c.ensures.most,
      c.spread-e.ensures.most,
      c.reduced.ensures.below,
      c.eightfold.ensures,
    );
  };
  four = (let n = g.T.RingWord.number in
      let w = n c.args.w.now.value in
      let outer = split_of_congruent_values w (n c.args.x) (n c.args.z) (n c.reduced.result) (n c.args.z) _ _
      (reduced_by 8 (n c.args.x) _ _ c.reduced.ensures.value c.eightfold.ensures) (mod_refl (n c.args.z))
      c.spread-e.ensures.pair in
      four_of_pairs w (n c.args.u.now.value) (n c.args.v.now.value) refl refl refl refl
      outer c.spread-f.ensures.pair c.spread-a.ensures.pair c.spread-c.ensures.pair);
}
