use Rattle.std.proofs.Common.{◌≡◌, ◌+◌, ◌*◌, arith}
use Rattle.modular_monty.proofs.UnitBases.{sum_fits_double_word, high_times_base, reduces_below}
use Rattle.modular_monty.proofs.odd_ring.reduce_below_by.Goals as goal

pub double_plus-requires : goal.double_plus-requires
double_plus-requires g c =
    let n = g.T.RingWord.number in
    omega (
      arith,
      c.requires.multiple,
      sum_fits_double_word g.T.PathWord.base (n c.args.m) (g.T.PathWord.double_number c.args.t) (n c.args.x)
          c.requires.below
          c.requires.x_fits c.is_below.ensures.fits,
    )

pub returns : goal.returns
returns g c =
    let n = g.T.RingWord.number in
    let low = n c.split-high.result.0 in
    let high = n c.split-high.result.1 in
    let t = g.T.PathWord.double_number c.args.t in
    let fits = c.split-high.ensures.low_fits in
    let sum : t + n c.args.x * n c.args.m ≡ low + g.T.PathWord.base * high =
    omega (arith, c.split-high.ensures.value, c.double_plus.ensures, c.requires.multiple) in
    record {
      reduction = reduces_below _ _ t _ low high c.requires.below c.requires.x_fits c.requires.low sum fits;
      whole = high_times_base _ _ t _ low high c.requires.low sum fits;
    }
