use Rattle.std.proofs.Common.{◌≡◌, ℕ, ◌+◌, ◌*◌, ◌≤◌, map, slice_index}
use Rattle.modular_word.specs.Sums.{sum_below}
use Rattle.modular_reduced.proofs.list_products.sum_by_carries.Given as goal

-- the products before index i are added, each with one carry at most
abbrev pub invariant-products : goal.invariant-products
invariant-products g l =
    let number = g.T.RingWord.number in let b = g.T.PathWord.base in
    let f = λ (i : ℕ). slice_index (map number l.xs) i * slice_index (map number l.ys) i in
    record {
      sum : g.T.PathWord.double_number l.sum + b * b * number l.carries + sum_below l.fn.from f ≡ sum_below l.i f;
      few : number l.carries + l.fn.from ≤ l.i;
    }
