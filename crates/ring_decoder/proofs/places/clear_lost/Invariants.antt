use Rattle.num_modular.specs.Callers.{◌≡◌, ℕ, All, IsForm, entry}
use Rattle.std.proofs.Common.{take}
use Rattle.ring_decoder.specs.Corrector.{without}
use Rattle.ring_decoder.proofs.places.clear_lost.Given as goal

-- 0 stands at the places so far, and the other values are as they were
abbrev pub invariant-places : goal.invariant-places
invariant-places g l =
    let ring = g.R.Reducer in let m = ring.modulus l.fn.r in let number = g.T.RingWord.number in
    All (λ f. IsForm ring.form ring.value m (number f)) l.values
    × ((i : ℕ) → entry number ring.value m l.values i ≡ without (take l.i l.fn.lost)
    (entry number ring.value m l.fn.values) i)
