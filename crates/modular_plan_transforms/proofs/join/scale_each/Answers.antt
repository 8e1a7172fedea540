use Rattle.std.proofs.Common.{◌*◌, length, arith, refl}
use Rattle.modular_plan_passes.proofs.Entries.{number_read, written_numbers_match_target, entry_kept, all_residues}
use Rattle.modular_plan_passes.proofs.Entries.{never_beyond}
use Rattle.modular_plan_transforms.proofs.join.scale_each.Goals as goal

pub entries-preserved : goal.entries-preserved
entries-preserved g c = record {
  done = written_numbers_match_target _ _ _ _ _ (omega arith) c.entries.invariant.done (grind (arith, number_read));
  kept = entry_kept _ _ _ _ _ c.entries.invariant.kept;
}

pub returns-clause-below : goal.returns-clause-below
returns-clause-below g c =
    all_residues _ _ (length c.args.xs.now) _ _ (g.met.M.JoinSteps.some c.args.m.now) (omega arith)
    (λ k l. c.entries.invariant.done k (omega arith))

pub returns-then-is_beyond : goal.returns-then-is_beyond
returns-then-is_beyond g c =
    let room = g.met.M.JoinSteps.room c.args.m.now in
    let far = c.if-is_beyond.ensures refl in
    never_beyond _ (4 * g.M.JoinSteps.modulus c.args.m.now) _ _ c.entries.i _ c.requires.entries (omega arith)
    (omega arith)
    c.index-xs-i.is (c.entries.invariant.kept c.entries.i (omega arith)) (omega (arith, far, room))
