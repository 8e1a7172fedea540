use Rattle.std.proofs.Common.{◌≡◌, ℕ, ◌+◌, ◌*◌, map, slice_index, ◌∙◌, ap, arith}
use Rattle.modular_word.specs.Sums.{sum_below}
use Rattle.modular_reduced.proofs.CarriedSums.{product_read, product_added, product_carried}
use Rattle.modular_reduced.proofs.list_products.sum_by_carries.Goals as goal
use Rattle.modular_reduced.proofs.list_products.sum_by_carries.Goals.{then-carry, else-carry}

pub products-preserved : goal.products-preserved
products-preserved g c =
    let number = g.T.RingWord.number in let b = g.T.PathWord.base in let wide = g.T.PathWord.double_number in
    let before = c.products.invariant in let i = c.products.i in
    let f = λ (i : ℕ). slice_index (map number c.args.xs.now) i * slice_index (map number c.args.ys.now) i in
    let is = product_read number c.args.xs.now c.args.ys.now i c.index-xs-i.result c.index-ys-i.result
    (wide c.product.result) (omega (arith, c.requires.within)) c.requires.equal c.index-xs-i.is c.index-ys-i.is
    c.product.ensures.value in
    let added = c.double_overflowing_add-low in
    elim c.if-carry.branch [
      | then-carry w ↦
          let more : number c.if-carry.carries ≡ number c.products.carries + 1 =
          ap number w.carries-is ∙ w.plus-carries.ensures ∙ ap (λ n. number c.products.carries + n) w.one.ensures in
          record {
            sum = product_carried b (wide c.products.sum) (wide c.product.result) (wide added.result.0)
                (number c.products.carries) (number c.if-carry.carries) (sum_below c.args.from f) i f before.sum is
                (added.ensures.carried w.if-carry.true) more;
            few = omega (arith, before.few, more);
          }
      | else-carry w ↦
          let same : number c.if-carry.carries ≡ number c.products.carries = ap number w.carries-is in
          record {
            sum = product_added b (wide c.products.sum) (wide c.product.result) (wide added.result.0)
                (number c.products.carries) (number c.if-carry.carries) (sum_below c.args.from f) i f before.sum is
                (added.ensures.exact w.if-carry.false) same;
            few = omega (arith, before.few, same);
          }
    ]
