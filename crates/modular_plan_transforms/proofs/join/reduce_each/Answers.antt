use Rattle.std.proofs.Common.{length, ◌∙◌, arith}
use Rattle.modular_plan_passes.proofs.Entries.{number_read, entry_below_common_bound, written_numbers_match_target}
use Rattle.modular_plan_passes.proofs.Entries.{entry_kept, all_residues}
use Rattle.modular_plan_transforms.proofs.join.reduce_each.Goals as goal

pub residue-requires : goal.residue-requires
residue-requires g c =
    let n = g.T.RingWord.number in
    let same = number_read n c.entries.xs _ _ (omega arith) c.index-xs-i.is
    ∙ c.entries.invariant.kept c.entries.i (omega arith) in
    rw same (entry_below_common_bound n _ c.args.xs.now c.entries.i c.index-xs-i.result c.requires (omega arith))

pub entries-preserved : goal.entries-preserved
entries-preserved g c = record {
  done = written_numbers_match_target _ _ _ _ _ (omega arith) c.entries.invariant.done (grind (arith, number_read));
  kept = entry_kept _ _ _ _ _ c.entries.invariant.kept;
}

pub returns-clause-below : goal.returns-clause-below
returns-clause-below g c =
    let s = g.met.M.JoinSteps.some c.args.m.now in
    all_residues _ _ (length c.args.xs.now) _ _ (omega (arith, s)) (omega arith) (λ k l. c.entries.invariant.done k
    (omega arith))
