use Rattle.num_modular.specs.Callers.{◌+◌, ◌-◌, ◌≤◌, All, IsForm, length, entry}
use Rattle.ring_correction.specs.KeyAdvance.{HoldPairs}
use Rattle.ring_correction.proofs.key_equation.solve.Given as goal

-- both pairs solve the key equation at the points so far
abbrev pub invariant-symbols : goal.invariant-symbols
invariant-symbols g l =
    let ring = g.R.Reducer in let m = ring.modulus l.fn.r in let number = g.T.RingWord.number in
    let entries = entry number ring.value m in
    All (λ f. IsForm ring.form ring.value m (number f)) l.first
    × All (λ f. IsForm ring.form ring.value m (number f)) l.second
    × (l.weights.0 + l.weights.1 + 1 ≤ l.i + l.fn.k)
    × HoldPairs entries m l.fn.k l.fn.split (length l.fn.first - l.fn.split) l.i l.weights.0 l.weights.1
    (entries l.fn.points) (entries l.fn.symbols) l.first l.second
