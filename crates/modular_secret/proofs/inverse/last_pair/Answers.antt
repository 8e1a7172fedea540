use Rattle.std.proofs.Common.{◌≡◌, ◌+◌, ◌-◌, ◌*◌, ◌^◌, ◌<◌, arith, refl, subst}
use Rattle.modular_secret.specs.Halvings.{IsHalvedPair}
use Rattle.modular_secret.proofs.HalvingSteps.{start_is_halved_pair}
use Rattle.modular_secret.proofs.inverse.last_pair.Goals as goal

pub steps-init : goal.steps-init
steps-init g c =
    let n = g.T.RingWord.number in
    let w = g.T.RingWord.width in
    let all : 2 * w - 0 ≡ 2 * w = omega arith in
    let x_fits : n c.args.x < 2 ^ w = omega (arith, c.is_below.ensures.fits, g.met.T.PathWord.base_is) in
    let m_fits : n c.args.m < 2 ^ w = omega (arith, c.is_below.ensures.other_fits, g.met.T.PathWord.base_is) in
    record {
      pair =
          rw all
          (start_is_halved_pair _ _ _ _ _ _ _ _ _ _ c.requires x_fits m_fits refl refl
          c.one.ensures c.zero.ensures c.odd_mask.ensures.all c.odd_mask.ensures.none c.zero-2.ensures);
      count = refl;
    }

pub steps-preserved : goal.steps-preserved
steps-preserved g c =
    let n = g.T.RingWord.number in
    let w = g.T.RingWord.width in
    let p = c.steps.pair in
    let k = c.steps._done in
    let some : 2 * w - k ≡ 2 * w - (k + 1) + 1 = omega (arith, c.bits.ensures) in
    let before = subst (λ d. IsHalvedPair g.T.PathWord.base (n c.args.m) (n c.args.x) k d (n p.above) (n p.below)
    (n p.above_factor) (n p.below_factor) (n p.odd) (n p.turns)) some c.steps.invariant.pair in
    record {
      pair = c.halved-pair.ensures (n c.args.x) k (2 * w - (k + 1)) before;
      count = omega (arith, c.steps.invariant.count);
    }
