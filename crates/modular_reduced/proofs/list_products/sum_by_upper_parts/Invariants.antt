use Rattle.std.proofs.Common.{ℕ, ◌-◌, ◌*◌, ◌^◌, map, slice_index}
use Rattle.modular_word.specs.Sums.{sum_below}
use Rattle.modular_reduced.proofs.CarriedSums.{IsPartedSum}
use Rattle.modular_reduced.proofs.list_products.sum_by_upper_parts.Given as goal

-- the products before index i are added
abbrev pub invariant-products : goal.invariant-products
invariant-products g l =
    let number = g.T.RingWord.number in let wide = g.T.PathWord.double_number in
    let f = λ (i : ℕ). slice_index (map number l.xs) i * slice_index (map number l.ys) i in
    IsPartedSum (2 ^ (g.T.RingWord.width - 1)) (wide l.sum) (wide l.upper) (l.i - l.fn.from) (sum_below l.fn.from f)
    (sum_below l.i f)
