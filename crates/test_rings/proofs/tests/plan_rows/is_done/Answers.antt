use Rattle.std.proofs.Common.{◌≡◌, ◌+◌, ◌*◌, ◌/◌, ◌≤◌, length, refl, arith, subst}
use Rattle.std.specs.Int.{IsPowerOfTwo}
use Rattle.num_modular.specs.PlanConditions.{AreBlocks}
use Rattle.test_rings.proofs.tests.plan_rows.is_done.Goals as goal

pub split-requires : goal.split-requires
split-requires g c = record {
  entries = c.if-not-all_in_room.ensures refl;
  factors = c.requires;
  blocks = c.if-not-splits.ensures.0 refl;
}

pub join-requires : goal.join-requires
join-requires g c = record {
  entries = c.if-not-all_in_room.ensures refl;
  factors = c.requires;
  blocks = c.if-not-splits.ensures.0 refl;
}

pub join_scaled-requires : goal.join_scaled-requires
join_scaled-requires g c = record {
  entries = c.if-not-all_in_room.ensures refl;
  factors = c.requires;
  blocks = c.if-not-splits.ensures.0 refl;
  factor = c.factor.ensures.factor;
}

pub ntt_planned-requires : goal.ntt_planned-requires
ntt_planned-requires g c =
    let n = length c.args.xs.now in
    let entries = length c.args.table.now in
    let blocks : AreBlocks n entries 0 1 =
    subst (λ b. AreBlocks n entries b 1) c.if-b-ne0.false
    (subst (λ last. AreBlocks n entries c.args.b last) c.if-last-ne1.false (c.if-not-splits.ensures.0 refl)) in
    let same : n / 1 ≡ n = omega arith in
    let room = blocks.within in
    record {
      entries = c.if-not-all_in_room.ensures refl;
      factors = c.requires;
      count = subst IsPowerOfTwo same blocks.count;
      within = omega (arith, room);
    }
