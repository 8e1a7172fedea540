use Rattle.std.proofs.Common.{refl}
use Rattle.std.proofs.lemmas.Bool.{false≢true}
use Rattle.modular_word.proofs.InverseLemmas.{HasInverse-mod, HasInverse-from_mod}
use Rattle.num_modular_c.proofs.transforms.has_inverse.Goals as goal

pub returns-in-Some : goal.returns-in-Some
returns-in-Some g c =
    (λ t. HasInverse-from_mod _ c.args.n (_, rw c.transform.ensures.value at c.in-Some.ensures.value), λ h. refl)

pub returns-in-None : goal.returns-in-None
returns-in-None g c = (
  λ t. absurd (false≢true t),
  λ h.
      let there = HasInverse-mod _ c.args.n h in
      absurd (c.in-None.ensures.value there.0 (rw c.transform.ensures.value there.1)),
)
