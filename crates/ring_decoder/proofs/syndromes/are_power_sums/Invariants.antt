use Rattle.num_modular.specs.Callers.{◌≡◌, ℕ, ◌+◌, ◌*◌, ◌%◌, ◌<◌, ◌≤◌, All, IsForm, entry, length}
use Rattle.std.proofs.Common.{◌^◌}
use Rattle.num_modular.specs.Congruence.{Congruent}
use Rattle.num_modular.specs.Sums.{sum_below}
use Rattle.ring_decoder.proofs.syndromes.are_power_sums.Given as goal

-- each term is the one at the start times a power of its point, and the sums so far are power sums, by a product a
-- point
abbrev pub invariant-sums : goal.invariant-sums
invariant-sums g l =
    let ring = g.R.Reducer in let m = ring.modulus l.fn.r in let number = g.T.RingWord.number in
    let w = entry number ring.value m l.fn.terms in let x = entry number ring.value m l.fn.points in
    let n = length l.fn.points in
    All (λ f. IsForm ring.form ring.value m (number f)) l.terms
    × ((i : ℕ) → i < n → Congruent m (entry number ring.value m l.terms i) (w i * x i ^ l.h))
    × ((j : ℕ) → j < l.h → entry number ring.value m l.fn.sums j ≡ sum_below n (λ i. w i * x i ^ j) % m)
    × (l.products ≤ l.fn.products + l.h * n)
    × (l.fn.products ≤ l.products)
