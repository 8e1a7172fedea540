use Rattle.std.proofs.Common.{◌+◌, ◌%◌, ◌∙◌, ap, sym}
use Rattle.modular_monty.proofs.UnitBases.{unit_base}
use Rattle.modular_monty.proofs.odd_ring.is_unit_base.Goals as goal

pub returns-then-is_zero_word : goal.returns-then-is_zero_word
returns-then-is_zero_word g c told =
    let n = g.T.RingWord.number in
    let B = g.T.PathWord.base in
    let parts = c.split-low.ensures in
    let low = n c.split-low.result.0 in
    unit_base B (n c.args.m) (n c.args.negated_inverse) low (n c.split-low.result.1)
    (sym c.product.ensures.value ∙ parts.value) (c.is_zero_word.ensures.zero.0 c.if-is_zero_word.true) parts.low_fits
    (ap (λ k. (low + k) % B) (sym c.one.ensures) ∙ sym c.wrapping_add.ensures.value
    ∙ c.is_zero_word-then-is_zero_word.ensures.zero.0 told)
