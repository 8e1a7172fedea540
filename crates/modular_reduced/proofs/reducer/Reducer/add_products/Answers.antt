use Rattle.std.proofs.Common.{◌≡◌, ◌+◌, ◌*◌, ◌%◌, ◌<◌, length, ◌∙◌, ap, ap₂, arith}
use Rattle.modular_word.specs.Sums.{sum_below}
use Rattle.modular_reduced.specs.Entries.{entry}
use Rattle.modular_reduced.specs.EntryLaws.{entry_read}
use Rattle.modular_reduced.proofs.ListProducts.{products_none, product_extends_residue_sum}
use Rattle.modular_reduced.proofs.reducer.Reducer.add_products.Goals as goal

pub products-init : goal.products-init
products-init g c = record {
  form = c.requires.sum;
  value = products_none (g.Self.Reducer.modulus c.args.self.now) _ _ c.requires.sum.below;
}

pub products-preserved : goal.products-preserved
products-preserved g c =
    let ring = g.Self.Reducer in let m = ring.modulus c.args.self.now in let number = g.T.RingWord.number in
    let value = ring.value in let i = c.products.i in
    let x = entry number value m c.args.xs.now in let y = entry number value m c.args.ys.now in
    let within_ys : i < length c.args.ys.now = let e = c.requires.equal in omega arith in
    let x_is = entry_read number value m c.args.xs.now i c.index-xs-i.result (omega arith) c.index-xs-i.is in
    let y_is = entry_read number value m c.args.ys.now i c.index-ys-i.result within_ys c.index-ys-i.is in
    record {
      form = c.add-total.ensures.checked;
      value = c.add-total.ensures.value ∙ ap (λ v. (value m (number c.products.total) + v) % m) c.mul.ensures.value
          ∙ product_extends_residue_sum m _ i _ _ _ (λ k. x k * y k) c.products.invariant.value
          (ap₂ (λ v w. v * w) x_is y_is);
    }

pub returns-clause-value : goal.returns-clause-value
returns-clause-value g c =
    let ring = g.Self.Reducer in let m = ring.modulus c.args.self.now in let number = g.T.RingWord.number in
    let x = entry number ring.value m c.args.xs.now in let y = entry number ring.value m c.args.ys.now in
    let all : c.products.i ≡ length c.args.xs.now = omega arith in
    c.products.invariant.value
    ∙ ap (λ n. (ring.value m (number c.args.sum) + sum_below n (λ k. x k * y k)) % m) all
