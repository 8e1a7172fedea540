-- The quotient by a multiplier and a shift: the products and shifts fit, and the quotient is exact.
use Rattle.std.proofs.Common.{◌+◌, ◌^◌, sym, ap, ◌∙◌}
use Rattle.std.proofs.lemmas.Nat.{pow_pos}
use Rattle.modular_word.proofs.MultiplierSteps.{quotient_by_multiplier}
use Rattle.modular_word.proofs.paths.quotient_1by1.Goals as goal

pub returns : goal.returns
returns g c =
    let n = g.T.RingWord.number in
    let both =
    quotient_by_multiplier _ (2 ^ c.args.shift) _ _ _ _ _ _ _
    _ (pow_pos _) c.product.ensures.other_fits c.requires.above c.requires.at_most c.requires.more c.requires.close
    (sym c.product.ensures.value ∙ c.split-t.ensures.value) c.split-t.ensures.low_fits c.minus.ensures.value
    (c.plus.ensures ∙ ap (λ v. n c.split-t.result.1 + v) c.shift_right.ensures.value) c.shift_right-2.ensures.value in
    record { at_most = both.0; above = both.1; fits = c.product.ensures.other_fits }
