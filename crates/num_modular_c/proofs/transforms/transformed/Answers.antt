use Rattle.std.proofs.Common.{◌<◌, ◌∙◌, refl, subst, sym}
use Rattle.std.proofs.lemmas.Bool.{false≢true}
use Rattle.num_modular_c.proofs.SameTerms.{same_transform}
use Rattle.num_modular_c.proofs.transforms.transformed.Goals as goal

pub returns-clause-did : goal.returns-clause-did
returns-clause-did g c suits = (
  refl,
  λ j l. c.unload.ensures j (subst (λ n. j < n) (sym (c.ntt.auto.xs ∙ c.load.auto.xs)) l)
      ∙ c.ntt.ensures.values j (subst (λ n. j < n) (sym c.load.auto.xs) l)
      ∙ same_transform _ j c.transform-g.ensures.value c.load.auto.xs (λ i k. c.load.ensures.values i k),
)

pub returns-then-not-root_fits-clause-did : goal.returns-then-not-root_fits-clause-did
returns-then-not-root_fits-clause-did g c suits =
    absurd (false≢true (c.if-not-root_fits.ensures.1 (rw c.transform-g.ensures.value suits)))

pub ntt-requires-clause-suits : goal.ntt-requires-clause-suits
ntt-requires-clause-suits g c = rw c.load.auto.xs (c.if-not-root_fits.ensures.0 refl)

pub returns-clause-no_root : goal.returns-clause-no_root
returns-clause-no_root g c none =
    absurd (none (rw c.transform-g.ensures.value at (c.if-not-root_fits.ensures.0 refl)))
