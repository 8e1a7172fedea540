use Rattle.std.proofs.Common.{◌*◌, ◌/◌, ◌^◌, ◌≤◌, ap, arith}
use Rattle.std.proofs.Math.Nat.{mul-le-mul_left}
use Rattle.std.proofs.lemmas.Nat.{shr_split}
use Rattle.modular_folds.proofs.FoldBounds.{doubled_fits}
use Rattle.modular_folds.proofs.folds.most_after.Goals as goal

pub plus-requires : goal.plus-requires
plus-requires g c =
    let n = g.V.RingWord.number in
    let high = n c.args.most / 2 ^ c.args.p in
    let part : high * (2 * n c.args.c) ≤ high * 2 ^ c.args.p = mul-le-mul_left high (omega (arith, c.requires.half)) in
    let free = doubled_fits g.V.RingWord.width c.args.p c.requires.inside in
    omega (
      arith,
      part,
      free,
      shr_split (n c.args.most) c.args.p,
      c.requires.mask,
      c.shift_right.ensures.fits,
      c.times.ensures,
      ap (λ k. k * n c.args.c) c.shift_right.ensures.value,
    )
