use Rattle.std.proofs.Common.{◌^◌}
use Rattle.num_modular.specs.Callers.{◌≡◌, ℕ, ◌<◌, ◌%◌, IsCheckedFormOf, entry}
use Rattle.ring_decoder.proofs.roots.are_powers.Given as goal

-- the points so far are powers, and the next power
abbrev pub invariant-points : goal.invariant-points
invariant-points g l =
    let ring = g.R.Reducer in let m = ring.modulus l.fn.r in let number = g.T.RingWord.number in
    let a = ring.value m (number l.fn.g) in
    IsCheckedFormOf ring.form ring.value m (number l.power) (a ^ l.i % m)
    × ((j : ℕ) → j < l.i → entry number ring.value m l.fn.points j ≡ a ^ j % m)
