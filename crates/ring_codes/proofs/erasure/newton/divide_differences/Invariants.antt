use Rattle.ring_codes.proofs.Names.{◌≡◌, ◌%◌, ◌<◌, ◌≤◌, ℕ, All, IsForm, entry, newton_form}
use Rattle.ring_codes.proofs.erasure.newton.divide_differences.Given as goal

-- the form so far has the values at the points so far, and the values behind them are as they were
abbrev pub invariant-points : goal.invariant-points
invariant-points g l =
    let ring = g.R.Reducer in let m = ring.modulus l.fn.r in let number = g.T.RingWord.number in
    let x = entry number ring.value m l.fn.points in
    All (λ f. IsForm ring.form ring.value m (number f)) l.values
    × ((k : ℕ) → k < l.i → newton_form m (entry number ring.value m l.values) x (x k) 0 l.i % m
    ≡ entry number ring.value m l.fn.values k)
    × ((k : ℕ) → l.i ≤ k → entry number ring.value m l.values k ≡ entry number ring.value m l.fn.values k)
