use Rattle.std.proofs.Common.{◌≡◌, ◌∙◌, ◌+◌, ◌*◌, ◌%◌, ◌/◌, ◌^◌, ap, arith}
use Rattle.modular_folds.proofs.FoldSteps.{masked_number_is_residue, fold_at_most, far_fold_keeps}
use Rattle.modular_folds.proofs.FoldSteps.{residue_below_raised_power}
use Rattle.modular_folds.proofs.far.fold_above.Goals as goal

pub times-requires : goal.times-requires
times-requires g c =
    let n = g.V.RingWord.number in
    let e = c.args.p + c.args.by in
    let less = residue_below_raised_power c.args.p c.args.by (n c.args.m) (n c.args.c) (n c.power_above-mask.result.1)
    c.requires.folding.whole c.power_above-mask.ensures.below in
    let most = fold_at_most e (n c.power_above-mask.result.1) (n c.args.v) less in
    grind (arith, c.shift_right.ensures.fits, c.shift_right.ensures.value)

pub plus-requires : goal.plus-requires
plus-requires g c =
    let n = g.V.RingWord.number in
    let e = c.args.p + c.args.by in
    let less = residue_below_raised_power c.args.p c.args.by (n c.args.m) (n c.args.c) (n c.power_above-mask.result.1)
    c.requires.folding.whole c.power_above-mask.ensures.below in
    let most = fold_at_most e (n c.power_above-mask.result.1) (n c.args.v) less in
    let low = masked_number_is_residue e (n c.power_above-mask.result.0) (n c.args.v) c.power_above-mask.ensures.mask in
    grind (arith, c.shift_right.ensures.fits, c.masked.ensures, c.times.ensures, c.shift_right.ensures.value)

pub returns : goal.returns
returns g c =
    let n = g.V.RingWord.number in
    let e = c.args.p + c.args.by in
    let low = masked_number_is_residue e (n c.power_above-mask.result.0) (n c.args.v) c.power_above-mask.ensures.mask in
    let sum : n c.plus.result ≡ n c.args.v / 2 ^ e * n c.power_above-mask.result.1 + n c.args.v % 2 ^ e =
    grind (arith, c.plus.ensures, c.masked.ensures, c.times.ensures, c.shift_right.ensures.value) in
    ap (λ k. k % n c.args.m) sum ∙ far_fold_keeps e (n c.power_above-mask.result.1) (n c.args.m)
    (n c.args.v) c.power_above-mask.ensures.same
