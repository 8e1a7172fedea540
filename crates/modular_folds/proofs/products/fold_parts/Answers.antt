use Rattle.std.proofs.Common.{◌≡◌, ◌+◌, ◌-◌, ◌*◌, ◌/◌, ◌^◌, arith}
use Rattle.std.proofs.Math.Nat.{mul-lt-mul_of_pos_right}
use Rattle.std.proofs.lemmas.Nat.{pow_pos, shr_split}
use Rattle.modular_folds.proofs.ProductFolds.{scaled_parts, power_whole}
use Rattle.modular_folds.proofs.products.fold_parts.Goals as goal

pub shift_left-requires-clause-fits : goal.shift_left-requires-clause-fits
shift_left-requires-clause-fits g c =
    let by = g.T.RingWord.width - c.args.p in
    let whole = power_whole _ c.args.p _ c.requires.fits g.met.T.PathWord.base_is in
    let less = mul-lt-mul_of_pos_right {k = 2 ^ by} c.requires.less (pow_pos by) in
    rw c.bits.ensures (omega (arith, whole, less))

pub returns : goal.returns
returns g c =
    let n = g.T.RingWord.number in
    let s = 2 ^ (g.T.RingWord.width - c.args.p) in
    let whole = power_whole _ _ _ c.requires.fits g.met.T.PathWord.base_is in
    let words : (n c.args.high * n c.args.c + n c.args.low / s) * s
    ≡ n c.split.result.0 + 2 ^ c.args.p * s * n c.split.result.1 =
    grind (
      arith,
      c.split.ensures.value,
      c.double_plus.ensures,
      c.product-scaled.ensures.value,
      c.merge.ensures.value,
      c.zero.ensures,
      shr_split (n c.args.low) (g.T.RingWord.width - c.args.p),
      c.requires.top,
    ) in
    let parts =
    scaled_parts _ _ _ (pow_pos (g.T.RingWord.width - c.args.p)) words
    (omega (arith, whole, c.split.ensures.low_fits)) in
    record { low = parts.0; high = parts.1 }
