use Rattle.std.proofs.Common.{ℕ, ◌+◌, ◌-◌, ◌*◌, ◌<◌, ◌≤◌, length, map, slice_index}
use Rattle.modular_word.specs.Congruence.{Congruent}
use Rattle.modular_word.specs.Sums.{sum_below}
use Rattle.modular_monty.proofs.odd_ring.OddRingReducer.add_products.Given as goal

-- the products before `from` are added
abbrev pub invariant-each_block : goal.invariant-each_block
invariant-each_block g l =
    let m = g.M.OddModulus.modulus l.self.kept in let b = g.T.PathWord.base in let number = g.T.RingWord.number in
    let f = λ (i : ℕ). slice_index (map number l.xs) i * slice_index (map number l.ys) i in
    record {
      below : number l.total < m;
      congruent : Congruent m (number l.total * b) (number l.fn.sum * b + sum_below l.from f);
      within : l.from ≤ length l.xs;
    }

abbrev pub decreases-each_block : goal.decreases-each_block
decreases-each_block g l = length l.xs - l.from
