use Rattle.num_modular.specs.Callers.{◌≡◌, ◌+◌, ◌*◌, ◌/◌, ◌%◌, length, HoldBelow, entry}
use Rattle.std.proofs.Common.{◌^◌}
use Rattle.ring_decoder.proofs.checks.fill_checks.Given as goal

-- the rows so far
abbrev pub invariant-rows : goal.invariant-rows
invariant-rows g l =
    let ring = g.R.Reducer in let m = ring.modulus l.fn.r in let number = g.T.RingWord.number in
    let n = length l.fn.points in let x = entry number ring.value m l.fn.points in
    let v = entry number ring.value m l.fn.weights in
    (l.next ≡ l.h * n) × HoldBelow number ring.form ring.value m l.checks (λ e. (v (e % n) * x (e % n) ^ (e / n)) % m)
    l.next

-- the rows and the checks of this row so far
abbrev pub invariant-points : goal.invariant-points
invariant-points g l =
    let ring = g.R.Reducer in let m = ring.modulus l.fn.r in let number = g.T.RingWord.number in
    let n = length l.fn.points in let x = entry number ring.value m l.fn.points in
    let v = entry number ring.value m l.fn.weights in
    (l.next ≡ l.h * n + l.i)
    × HoldBelow number ring.form ring.value m l.checks (λ e. (v (e % n) * x (e % n) ^ (e / n)) % m) l.next
