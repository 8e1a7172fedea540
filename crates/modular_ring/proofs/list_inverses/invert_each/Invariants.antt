use Rattle.std.proofs.Common.{ℕ, ◌-◌, ◌%◌, length, All}
use Rattle.modular_word.specs.Inverses.{IsInverse}
use Rattle.modular_reduced.specs.Forms.{IsForm}
use Rattle.modular_reduced.specs.Entries.{entry, IsCheckedFormOf, HoldBelow, DoneFrom}
use Rattle.modular_ring.specs.Products.{product_below}
use Rattle.modular_ring.proofs.list_inverses.invert_each.Given as goal

-- the products before each place so far
abbrev pub invariant-forward : goal.invariant-forward
invariant-forward g l =
    let ring = g.R.Reducer in let m = ring.modulus l.fn.r in let number = g.T.RingWord.number in
    let before : ℕ → ℕ = λ k. product_below k (entry number ring.value m l.fn.forms) % m in
    IsCheckedFormOf ring.form ring.value m (number l.product) (before l.i)
    × HoldBelow number ring.form ring.value m l.scratch before l.i

-- the places from the last on are done, and the inverse is that of the product before them
abbrev pub invariant-backward : goal.invariant-backward
invariant-backward g l =
    let ring = g.R.Reducer in let m = ring.modulus l.fn.r in let number = g.T.RingWord.number in
    let v = entry number ring.value m l.fn.forms in let left = length l.fn.forms - l.k in
    IsForm ring.form ring.value m (number l.inverse)
    × IsInverse m (product_below left v) (ring.value m (number l.inverse))
    × All (λ f. IsForm ring.form ring.value m (number f)) l.forms
    × DoneFrom (λ k w. IsInverse m (v k) w) left (length l.fn.forms) v (entry number ring.value m l.forms)
