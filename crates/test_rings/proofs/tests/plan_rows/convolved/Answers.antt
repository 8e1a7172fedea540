use Rattle.std.proofs.Common.{length, refl, sym, subst}
use Rattle.num_modular.specs.ProductConditions.{AreSmallBlocks}
use Rattle.test_rings.proofs.tests.plan_rows.convolved.Goals as goal

pub convolve_planned-requires : goal.convolve_planned-requires
convolve_planned-requires g c = record {
  entries_xs = c.if-not-all_in_room.ensures refl;
  entries_ys = c.if-not-all_in_room-2.ensures refl;
  equal = sym c.if-xs-ys.false;
  factors = c.requires;
  blocks = subst (λ b. AreSmallBlocks (length c.args.xs.now) (length c.args.table.now) b c.args.last) c.if-b-eq0.true
      (c.if-not-convolves.ensures.0 refl);
}

pub convolve_negacyclic-requires : goal.convolve_negacyclic-requires
convolve_negacyclic-requires g c = record {
  entries_xs = c.if-not-all_in_room.ensures refl;
  entries_ys = c.if-not-all_in_room-2.ensures refl;
  equal = sym c.if-xs-ys.false;
  factors = c.requires;
  blocks = subst (λ b. AreSmallBlocks (length c.args.xs.now) (length c.args.table.now) b c.args.last) c.if-b-eq1.true
      (c.if-not-convolves.ensures.0 refl);
}

pub convolve_block-requires : goal.convolve_block-requires
convolve_block-requires g c = record {
  entries_xs = c.if-not-all_in_room.ensures refl;
  entries_ys = c.if-not-all_in_room-2.ensures refl;
  equal = sym c.if-xs-ys.false;
  factors = c.requires;
  blocks = c.if-not-convolves.ensures.0 refl;
}
