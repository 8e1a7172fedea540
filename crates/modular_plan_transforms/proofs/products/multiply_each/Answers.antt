use Rattle.std.proofs.Common.{length, ◌∙◌, arith, refl}
use Rattle.modular_plan_passes.proofs.Entries.{number_read, entry_below_common_bound, written_numbers_match_target}
use Rattle.modular_plan_passes.proofs.Entries.{entry_kept, all_residues, never_beyond}
use Rattle.modular_plan_transforms.proofs.products.multiply_each.Goals as goal

pub multiply-requires : goal.multiply-requires
multiply-requires g c =
    let n = g.T.RingWord.number in
    let same = number_read n c.entries.xs _ _ (omega arith) c.index-xs-i.is
    ∙ c.entries.invariant.kept c.entries.i (omega arith) in
    rw same (entry_below_common_bound n _ c.args.xs.now c.entries.i c.index-xs-i.result c.requires.below (omega arith))

pub entries-preserved : goal.entries-preserved
entries-preserved g c = record {
  done = written_numbers_match_target _ _ _ _ _ (omega arith) c.entries.invariant.done (grind (arith, number_read));
  kept = entry_kept _ _ _ _ _ c.entries.invariant.kept;
}

pub returns-clause-below : goal.returns-clause-below
returns-clause-below g c =
    all_residues _ _ (length c.args.xs.now) _ _ (omega (arith, c.args.m.now.some)) (omega arith)
    (λ k l. c.entries.invariant.done k (omega arith))

pub returns-then-is_beyond : goal.returns-then-is_beyond
returns-then-is_beyond g c =
    let far = c.if-is_beyond.ensures refl in
    never_beyond _ (g.T.RingWord.number c.args.m.now.modulus) _ _ c.entries.i _ c.requires.below (omega arith)
    (omega arith) c.index-xs-i.is (c.entries.invariant.kept c.entries.i (omega arith)) (omega (arith, far))
