use Rattle.std.proofs.Common.{◌+◌, ◌<◌, arith}
use Rattle.std.proofs.lemmas.List.Elements.{All-set}
use Rattle.modular_plan_passes.proofs.Entries.{number_read}
use Rattle.modular_plan_passes.proofs.PairSteps.{pair_done_by_two_writes}
use Rattle.modular_plan_transforms.proofs.SmallProducts.{IsPairProduct, pair_of_read}
use Rattle.modular_plan_transforms.proofs.products.multiply_pair.Goals as goal

pub returns : goal.returns
returns g c =
    let n = g.T.RingWord.number in
    let m = n c.args.m.now.modulus in
    let within = c.requires.within in
    let equal = c.requires.equal in
    let x = number_read n c.args.xs.now c.args.place _ (omega arith) c.index-xs-place.is in
    let y = number_read n c.args.ys.now c.args.place _ (omega arith) c.index-ys-place.is in
    let u = number_read n c.args.xs.now (c.args.place + 1) _ within c.index-xs-next.is in
    let v = number_read n c.args.ys.now (c.args.place + 1) _ (omega arith) c.index-ys-next.is in
    let low_is = c.product_sum-2 in
    let high_is = c.product_sum in
    let P = λ (x : g.row.T.Denot). n x < m in
    record {
      below = All-set P _ _ _ low_is.ensures.below (All-set P _ _ _ high_is.ensures.below c.requires.below);
      done = pair_done_by_two_writes n (IsPairProduct m (n c.args.turned) _ _) _ _ _ _ _ (omega arith) within
          (pair_of_read m (n c.args.turned) x y u v low_is.ensures.value high_is.ensures.value);
    }
