use Rattle.std.proofs.Common.{refl, sym, ◌∙◌}
use Rattle.std.proofs.lemmas.Bool.{false≢true}
use Rattle.num_modular_c.proofs.planned.product_code.Goals as goal

pub returns-then-convolve_block-clause-did : goal.returns-then-convolve_block-clause-did
returns-then-convolve_block-clause-did c inverse =
    let done = c.convolve_block.ensures in
    let is = c.if-convolve_block.true in (
      refl,
      rw (← c.new.ensures) (record {
        below = (done.below is).0;
        product = rw c.convolve_block.auto.xs (done.product is);
        others_below = (done.below is).1;
        remainders = rw c.requires.pair.equal (done.remainders is);
      }),
    )

pub returns-then-convolve_block-clause-no_inverse : goal.returns-then-convolve_block-clause-no_inverse
returns-then-convolve_block-clause-no_inverse c none =
    absurd (none (rw c.new.ensures at (c.convolve_block.ensures.inverse.0 c.if-convolve_block.true)))

pub returns-else-convolve_block-clause-did : goal.returns-else-convolve_block-clause-did
returns-else-convolve_block-clause-did c inverse =
    absurd (false≢true (sym c.if-convolve_block.false ∙ c.convolve_block.ensures.inverse.1 (rw c.new.ensures inverse)))

pub returns-else-convolve_block-clause-no_inverse : goal.returns-else-convolve_block-clause-no_inverse
returns-else-convolve_block-clause-no_inverse c none =
    let kept = c.convolve_block.ensures.unchanged (λ t. false≢true (sym c.if-convolve_block.false ∙ t)) in
    ((refl, kept.0), kept.1)
