use Rattle.std.proofs.Common.{cond}
use Rattle.num_modular.specs.Callers.{◌+◌, ◌*◌, ◌/◌, ◌≤◌, All, IsForm, length, entry}
use Rattle.ring_decoder.specs.LocatorSteps.{IsSearch}
use Rattle.ring_decoder.proofs.locator.find_locator.Given as goal

-- the recurrence holds for the moments so far
abbrev pub invariant-moments : goal.invariant-moments
invariant-moments g l =
    let ring = g.R.Reducer in let m = ring.modulus l.fn.r in let number = g.T.RingWord.number in
    All (λ f. IsForm ring.form ring.value m (number f)) l.first
    × All (λ f. IsForm ring.form ring.value m (number f)) l.second
    × IsForm ring.form ring.value m (number l.state.2)
    × IsForm ring.form ring.value m (number l.state.3)
    × IsSearch m (length l.fn.moments) l.i l.state.0 (ring.value m (number l.state.2)) (ring.value m (number l.state.3))
    (entry number ring.value m (cond l.state.1 l.first l.second))
    (entry number ring.value m (cond l.state.1 l.second l.first))
    (entry number ring.value m l.fn.moments)
    × (l.products ≤ l.fn.products + 3 * l.i * (length l.fn.moments / 2 + 1))
    × (l.fn.products ≤ l.products)
