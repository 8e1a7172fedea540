use Rattle.std.proofs.Common.{◌≡◌, ◌%◌, ◌^◌, ap, ◌∙◌, rules}
use Rattle.modular_prim.proofs.DifferenceSteps.{Without, Without-of_quotient, zeros_divide, start_is_difference_pair}
use Rattle.modular_prim.proofs.DifferenceSteps.{first_fits, last_factor}
use Rattle.modular_prim.proofs.inverse.last_pair.Goals as goal

pub differences-init : goal.differences-init
differences-init g c =
    let x = g.T.RingWord.number c.args.x in
    let t = c.trailing_zeros-twos.result in
    let divided : x % 2 ^ t ≡ 0 = ap (λ k. x % 2 ^ k) c.trailing_zeros-twos.ensures.value ∙ zeros_divide _ _ in
    let h : Without x t (g.T.RingWord.number c.shift_right.result) =
    Without-of_quotient _ t _ c.requires.some divided c.shift_right.ensures.value in
    record {
      pair = start_is_difference_pair _ _ t _ _ _ h c.one.ensures c.zero.ensures;
      fits =
          first_fits _ _ _ t _ _ _ h c.one.ensures c.zero.ensures c.requires.below c.requires.fits;
    }

pub returns-clause-factor_below : goal.returns-clause-factor_below
returns-clause-factor_below g c =
    (last_factor _ _ _ _ _ _ _ _ _ c.differences.invariant.pair c.differences.invariant.fits
    ((g.met.T.RingWord.equal c.differences.pair.above c.differences.pair.below).0 (search rules))).1
