use Rattle.std.proofs.Common.{◌<◌, length, ◌∙◌, arith}
use Rattle.modular_word.specs.Congruence.{Congruent}
use Rattle.modular_word.proofs.Congruence.{mod_of_eq, mod_trans}
use Rattle.modular_plan_passes.specs.Plans.{numbers}
use Rattle.modular_plan_passes.proofs.Entries.{number_read, entry_below_common_bound, entry_written, entry_kept}
use Rattle.modular_plan_passes.proofs.Entries.{all_below}
use Rattle.modular_plan_transforms.proofs.join.lower_each.Goals as goal

pub lowered-requires : goal.lowered-requires
lowered-requires g c =
    let n = g.T.RingWord.number in
    let same = number_read n c.entries.xs _ _ (omega arith) c.index-xs-i.is
    ∙ c.entries.invariant.kept c.entries.i (omega arith) in
    rw same (entry_below_common_bound n _ c.args.xs.now c.entries.i c.index-xs-i.result c.requires (omega arith))

pub entries-preserved : goal.entries-preserved
entries-preserved g c =
    let n = g.T.RingWord.number in
    let i = c.entries.i in
    let same = number_read n _ i _ (omega arith) c.index-xs-i.is ∙ c.entries.invariant.kept i (omega arith) in
    record {
      below = entry_written n _ i _ (λ k v. v < g.M.JoinSteps.bound c.args.m.now) (omega arith)
          c.entries.invariant.below
          c.lowered.ensures.below;
      done = entry_written n _ i _ (λ k v. Congruent (g.M.JoinSteps.modulus c.args.m.now) v (numbers n c.args.xs.now k))
          (omega arith) c.entries.invariant.done (mod_trans c.lowered.ensures.congruent (mod_of_eq same));
      kept = entry_kept _ _ _ _ _ c.entries.invariant.kept;
    }

pub returns-clause-below : goal.returns-clause-below
returns-clause-below g c =
    all_below _ _ (length c.args.xs.now) _ (omega arith) (λ k l. c.entries.invariant.below k (omega arith))
