use Rattle.std.proofs.Common.{length-take-le}
use Rattle.num_modular.specs.Callers.{◌+◌, ◌%◌, ◌∙◌, ap, refl, arith}
use Rattle.num_modular.specs.NumberLaws.{sum_below-same}
use Rattle.ring_codes.proofs.Symbols.{entry_slice, entry_front}
use Rattle.ring_decoder.proofs.locator.apply.Goals as goal

pub returns-clause-value : goal.returns-clause-value
returns-clause-value g c =
    let ring = g.R.Reducer in let m = ring.modulus c.args.r.now in let number = g.T.RingWord.number in
    let polynomial = c.args.polynomial.now in let numbers = c.args.numbers.now in
    let from = c.args.from in let n = c.args.count in let within = c.requires.within in
    c.dot_product.ensures.value ∙ ap (λ v. v % m) (rw (length-take-le n polynomial within) (sum_below-same n _ _ (λ i l.
    rw (
      entry_front number ring.value m polynomial n i l within,
      entry_slice number ring.value m numbers from (from + n) i
          (omega arith) c.requires.numbers_within (omega (arith, l)),
    ) refl)))
