use Rattle.std.proofs.Common.{ℕ, ◌%◌, List, take, get_or, ap, sym, ◌∙◌, length, slice_index}
use Rattle.std.proofs.lemmas.List.{take_more}
use Rattle.modular_reduced.specs.Integers.{residue_of}
use Rattle.modular_folds.specs.Mersenne.{mersenne}
use Rattle.modular_word.specs.Sums.{polynomial_highest_first}
use Rattle.modular_word.proofs.Polynomials.{empty_polynomial_is_zero, polynomial_residue_of_appended}
use Rattle.modular_ring.proofs.hashes.hash.Goals as goal

pub bytes-init : goal.bytes-init
bytes-init c = c.convert-value.ensures.residue ∙ ap (λ n. n % mersenne 61 1) (sym (empty_polynomial_is_zero _))

pub bytes-preserved : goal.bytes-preserved
bytes-preserved c =
    let m : ℕ = mersenne 61 1 in
    let text : List ℕ = c.args.text.now in
    let i : ℕ = c.bytes.byte-index in
    let x = residue_of c.args.base in
    c.add-value.ensures.residue
    ∙ polynomial_residue_of_appended m (take i text) (get_or text i 0) x _ _ c.bytes.invariant c.mul.ensures.residue
    ∙ ap (λ cs. polynomial_highest_first (length cs) (slice_index cs) x % m)
    (sym (take_more text i 0 c.bytes-test.true))
