use Rattle.num_modular.specs.Callers.{◌≡◌, ◌≤◌, ◌<◌, ℕ, IsForm, entry}
use Rattle.std.proofs.Common.{get_or}
use Rattle.ring_decoder.specs.ErrorPatterns.{zeros, AreChosen}
use Rattle.ring_decoder.proofs.choices.gather.Given as goal

-- the numbers of the chosen places so far
abbrev pub invariant-values : goal.invariant-values
invariant-values g l =
    let ring = g.R.Reducer in let m = ring.modulus l.fn.r in let number = g.T.RingWord.number in
    let z = entry number ring.value m l.fn.values in
    (l.next ≡ zeros l.i z) × (l.next ≤ l.i)
    × ((k : ℕ) (d : g.row.T.Denot) → k < l.next → IsForm ring.form ring.value m (number (get_or l.chosen k d)))
    × AreChosen l.i z (entry number ring.value m l.fn.numbers) (entry number ring.value m l.chosen)
