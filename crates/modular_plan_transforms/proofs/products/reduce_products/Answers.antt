use Rattle.std.proofs.Common.{◌*◌, ◌<◌, length, ◌∙◌, arith}
use Rattle.modular_word.specs.Congruence.{Congruent}
use Rattle.modular_plan_passes.specs.Plans.{numbers}
use Rattle.modular_plan_passes.proofs.Entries.{all_below, number_read, entry_written, entry_kept}
use Rattle.modular_plan_transforms.proofs.products.reduce_products.Goals as goal

pub entries-preserved : goal.entries-preserved
entries-preserved g c =
    let n = g.T.RingWord.number in
    let m = n c.args.m.now.modulus in
    let i = c.entries.i in
    let first = number_read n _ i _ (omega arith) c.index-xs-i.is ∙ c.entries.invariant.kept i (omega arith) in
    let second = number_read n c.args.ys.now i _ (omega arith) c.index-ys-i.is in
    record {
      below = entry_written n _ i _ (λ k v. v < 2 * m) (omega arith) c.entries.invariant.below
          c.reduced_product.ensures.below;
      done = entry_written n _ i _
          (λ k v. Congruent m (v * g.T.PathWord.base) (numbers n c.args.xs.now k * numbers n c.args.ys.now k))
          (omega arith)
          c.entries.invariant.done (rw second at (rw first at c.reduced_product.ensures.congruent));
      kept = entry_kept _ _ _ _ _ c.entries.invariant.kept;
    }

pub returns-clause-below : goal.returns-clause-below
returns-clause-below g c =
    all_below _ _ (length c.args.xs.now) _ (omega arith) (λ k l. c.entries.invariant.below k (omega arith))
