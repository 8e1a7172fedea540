use Rattle.std.proofs.Common.{ℕ, ◌*◌, map, slice_index}
use Rattle.modular_word.specs.Sums.{sum_below}
use Rattle.modular_word.proofs.Congruence.{mod_of_eq, mod_trans}
use Rattle.modular_monty.proofs.ReducedSums.{low_reduced, carries_formed, carries_added}
use Rattle.modular_monty.proofs.list_products.reduced_products.Goals as goal
use Rattle.modular_monty.proofs.list_products.reduced_products.Goals.{After-redc-reduced}

-- the sum of the products before an index
abbrev so_far : (g : _) (c : After-redc-reduced g) → ℕ → ℕ
so_far g c n =
    let number = g.T.RingWord.number in
    sum_below n (λ i. slice_index (map number c.args.xs.now) i * slice_index (map number c.args.ys.now) i)

pub returns-clause-congruent : goal.returns-clause-congruent
returns-clause-congruent g c =
    let at = (goal.at.returns-clause-congruent g c).After-redc-reduced in
    let r = g.met.M.OddModulus.is_odd_ring c.args.ring.now.kept in
    let number = g.T.RingWord.number in
    let lowest =
    low_reduced (number c.split-low.result.0) (so_far g at c.args.from) c.redc-reduced.ensures c.merge.ensures.value
    c.remainder.ensures.congruent c.split-low.ensures.value in
    mod_trans (carries_added g.T.PathWord.base (number c.redc-reduced.result) (number c.sum_of_residues-sum.result.1)
    (g.T.PathWord.double_number c.sum_of_residues-sum.result.0) (so_far g at c.args.from) lowest
    (carries_formed g.T.RingWord.width (number c.sum_of_residues-sum.result.1) r.base c.transform.ensures.form.same)
    (rw c.modulus-2.ensures at c.add_below.ensures.value))
    (mod_of_eq c.sum_of_residues-sum.ensures)
