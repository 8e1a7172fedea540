use Rattle.std.proofs.Common.{◌∙◌, arith, refl, sym}
use Rattle.std.proofs.lemmas.Bool.{false≢true}
use Rattle.num_modular_c.proofs.SameTerms.{same_transform}
use Rattle.num_modular_c.proofs.transforms.transformed_back.Goals as goal

pub returns-then-not-root_fits-clause-did : goal.returns-then-not-root_fits-clause-did
returns-then-not-root_fits-clause-did g c suits inverse =
    absurd (false≢true (c.if-not-root_fits.ensures.1 (rw c.transform-g.ensures.value suits)))

pub returns-then-not-root_fits-clause-no_inverse : goal.returns-then-not-root_fits-clause-no_inverse
returns-then-not-root_fits-clause-no_inverse g c suits none =
    absurd (false≢true (c.if-not-root_fits.ensures.1 (rw c.transform-g.ensures.value suits)))

pub returns-then-not-has_inverse-clause-did : goal.returns-then-not-has_inverse-clause-did
returns-then-not-has_inverse-clause-did g c suits inverse =
    absurd (false≢true (c.if-not-has_inverse.ensures.1 inverse))

pub returns-then-not-has_inverse-clause-no_root : goal.returns-then-not-has_inverse-clause-no_root
returns-then-not-has_inverse-clause-no_root g c none =
    absurd (none (rw c.transform-g.ensures.value at (c.if-not-root_fits.ensures.0 refl)))

pub intt-always-requires-clause-suits : goal.intt-always-requires-clause-suits
intt-always-requires-clause-suits g c = rw c.load.auto.xs (c.if-not-root_fits.ensures.0 refl)

pub returns-clause-did : goal.returns-clause-did
returns-clause-did g c suits inverse =
    let value = c.transform-g.ensures.value in
    let same = c.load.auto.xs in
    let done = c.intt-always.ensures.inverse.1 (rw same inverse) in (
      refl,
      record {
        values = λ j l. same_transform _ j (sym value) (sym same) (λ i k. c.unload.ensures i (omega arith))
            ∙ c.intt-always.ensures.values done j (omega arith) ∙ c.load.ensures.values j l;
        only = λ v are i l. c.unload.ensures i (omega arith)
            ∙ c.intt-always.ensures.undone done v
            (λ j k. same_transform _ j value same (λ p q. refl) ∙ are j (omega arith)
            ∙ sym (c.load.ensures.values j (omega arith))) i (omega arith);
      },
    )

pub returns-clause-no_root : goal.returns-clause-no_root
returns-clause-no_root g c none =
    absurd (none (rw c.transform-g.ensures.value at (c.if-not-root_fits.ensures.0 refl)))
