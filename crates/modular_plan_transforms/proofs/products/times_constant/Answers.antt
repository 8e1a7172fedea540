use Rattle.std.proofs.Common.{◌≡◌, ℕ, ◌+◌, ◌*◌, ◌/◌, ◌%◌, ◌<◌, length, sym, ◌∙◌, ap, arith}
use Rattle.std.proofs.Math.Nat.{mod-lt}
use Rattle.modular_word.proofs.Congruence.{mod_trans, mod_of_eq, mod_refl, mod_sym, mod_mul, residue_of}
use Rattle.modular_plan_passes.specs.Plans.{constant}
use Rattle.modular_plan_passes.proofs.Entries.{number_read}
use Rattle.modular_plan_transforms.proofs.Constants.{odd_constant, halved_block_index_within}
use Rattle.modular_plan_passes.proofs.Levels.{constants_of_halves}
use Rattle.modular_plan_transforms.proofs.SmallProducts.{product_by_odd}
use Rattle.modular_plan_transforms.proofs.products.times_constant.Goals as goal

pub overflow_mul-b : goal.overflow_mul-b
overflow_mul-b g c = omega (arith, (halved_block_index_within _ _ _ _ c.requires.block c.requires.within).within)

pub overflow_add-b : goal.overflow_add-b
overflow_add-b g c = omega (arith, (halved_block_index_within _ _ _ _ c.requires.block c.requires.within).within)

pub offset_bounds-table-b : goal.offset_bounds-table-b
offset_bounds-table-b g c = omega (arith, (halved_block_index_within _ _ _ _ c.requires.block c.requires.within).within)

pub bounds-table-b : goal.bounds-table-b
bounds-table-b g c = (halved_block_index_within _ _ _ _ c.requires.block c.requires.within).within

pub product-turned-requires : goal.product-turned-requires
product-turned-requires g c =
    let within = (halved_block_index_within _ _ _ _ c.requires.block c.requires.within).within in
    rw c.factor-w.ensures.quotient (rw c.factor-w.ensures.value
    (rw (sym c.index-table-b.is) at (c.requires.factors _ c.index-table-b.result within)))

pub returns-then-rest-eq0 : goal.returns-then-rest-eq0
returns-then-rest-eq0 g c = record {
  most = (let n = g.T.RingWord.number in
      let some : 0 < n c.args.m.now.modulus = omega (arith, c.args.m.now.some) in
      omega (arith, mod-lt (n c.args.x * n c.factor-w.result.value) some, c.product-turned.ensures));
  product = (let n = g.T.RingWord.number in
      let block = halved_block_index_within _ _ _ _ c.requires.block c.requires.within in
      let p : ℕ = c.args.b / 2 * c.args.count + (c.args.b % 2 * c.args.count + c.args.j) / 2 in
      let is = c.factor-w.ensures.value ∙ number_read g.F.PlanEntry.value _ p _ block.within c.index-table-b.is in
      let at : c.args.b * c.args.count + c.args.j ≡ 2 * p = omega (arith, block.is, c.if-rest-eq0.true) in
      λ root z twiddles. rw at (mod_trans (mod_of_eq c.product-turned.ensures)
      (mod_trans (residue_of (n c.args.x * n c.factor-w.result.value)) (mod_mul (mod_refl (n c.args.x)) (rw is
      (mod_sym (constants_of_halves root z (length c.args.table.now) p _ twiddles block.within).even_is))))));
}

pub returns-else-rest-eq0 : goal.returns-else-rest-eq0
returns-else-rest-eq0 g c = record {
  product = (let n = g.T.RingWord.number in
      let block = halved_block_index_within _ _ _ _ c.requires.block c.requires.within in
      let p : ℕ = c.args.b / 2 * c.args.count + (c.args.b % 2 * c.args.count + c.args.j) / 2 in
      let is = c.factor-w.ensures.value ∙ number_read g.F.PlanEntry.value _ p _ block.within c.index-table-b.is in
      let below = rw (sym c.index-table-b.is) at (c.requires.factors _ c.index-table-b.result block.within).below in
      let at : c.args.b * c.args.count + c.args.j ≡ 2 * p + 1 = omega (arith, block.is, c.if-rest-eq0.false) in
      λ root z twiddles. rw at (product_by_odd (n c.args.x) (n c.factor-w.result.value)
      (constant root z (2 * p + 1)) _ _
      (rw c.factor-w.ensures.value below) (λ v h. odd_constant p v twiddles block.within (ap (λ k. v + k) (sym is) ∙ h))
      c.product-turned.ensures c.minus.ensures.value));
  most = omega (arith, c.minus.ensures.value);
}
