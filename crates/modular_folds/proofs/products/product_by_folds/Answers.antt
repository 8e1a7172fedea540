use Rattle.std.proofs.Common.{sym, ◌∙◌, ◌≡◌, ◌*◌, arith}
use Rattle.std.proofs.Math.Nat.{mul-mod_left}
use Rattle.modular_folds.proofs.FoldSteps.{power_fits, some_bits}
use Rattle.modular_folds.proofs.ProductFolds.{IsLastSum, sum_by_one, sum_by_small}
use Rattle.modular_folds.proofs.products.product_by_folds.Goals as goal
use Rattle.modular_folds.proofs.products.product_by_folds.Goals.{After-shift_right, After-shift_right-2}

is_one : (g : _) (c : After-shift_right g) → g.T.RingWord.number c.args.c ≡ 1
is_one g c = (g.met.T.RingWord.equal c.args.c c.one.result).0 (sym c.eq.ensures ∙ c.if-eq.true) ∙ c.one.ensures

by_one : (g : _) (c : After-shift_right g) → g.T.RingWord.number c.args.c ≡ 1
    → IsLastSum (g.T.RingWord.number c.args.m) (g.T.RingWord.number c.args.a * g.T.RingWord.number c.args.b)
    (g.T.RingWord.number c.fold_parts-low.result.1) (g.T.RingWord.number c.shift_right.result)
by_one g c one =
    sum_by_one _ _ _ _ c.requires.folding one c.requires.left c.requires.right c.zero.ensures
    c.fold_parts-low.ensures.low c.fold_parts-low.ensures.high c.bits.ensures c.shift_right.ensures.value

pub sum_of_parts-requires : goal.sum_of_parts-requires
sum_of_parts-requires g c = search (arith, by_one, is_one)

pub returns-then-eq : goal.returns-then-eq
returns-then-eq g c =
    let d = (goal.at.returns-then-eq g c).After-shift_right in
    c.sum_of_parts.ensures ∙ (by_one g d (is_one g d)).same

pub fold_parts-rest-requires : goal.fold_parts-rest-requires
fold_parts-rest-requires g c = search (arith, some_bits, mul-mod_left)

by_small : (g : _) (c : After-shift_right-2 g)
    → IsLastSum (g.T.RingWord.number c.args.m) (g.T.RingWord.number c.args.a * g.T.RingWord.number c.args.b)
    (g.T.RingWord.number c.shift_right-2.result)
    (g.T.RingWord.number c.fold_parts-rest.result.1 * g.T.RingWord.number c.args.c)
by_small g c = search (arith, sum_by_small)

pub times-requires : goal.times-requires
times-requires g c =
    let last = by_small g (goal.at.times-requires g c).After-shift_right-2 in
    omega (
      arith,
      last.most,
      c.requires.folding.whole,
      power_fits c.requires.folding,
      c.requires.folding.some,
      g.met.T.PathWord.base_is,
    )

pub sum_of_parts-requires-2 : goal.sum_of_parts-requires-2
sum_of_parts-requires-2 g c =
    let last = by_small g (goal.at.sum_of_parts-requires-2 g c).After-shift_right-2 in
    rw c.times.ensures (record {
      bound = omega (arith, c.requires.folding.whole);
      most = last.most;
      twice =
          last.twice;
    })

pub returns : goal.returns
returns g c = search (arith, by_small)
