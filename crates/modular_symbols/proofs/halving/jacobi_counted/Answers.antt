-- The residue has the symbol of the number.
use Rattle.std.proofs.Common.{arith, ◌∙◌, ap, sym, pos}
use Rattle.modular_symbols.specs.Jacobi.{jacobi}
use Rattle.modular_symbols.specs.Kronecker.{signed}
use Rattle.modular_word.proofs.ResidueLemmas.{residue_is}
use Rattle.modular_symbols.proofs.JacobiLaws.{jacobi-residue}
use Rattle.modular_symbols.proofs.halving.jacobi_counted.Goals as goal

pub halve_and_swap-requires-clause-below : goal.halve_and_swap-requires-clause-below
halve_and_swap-requires-clause-below g c =
    let n = g.T.RingWord.number in
    let is = residue_is (n c.args.n) (signed c.args.a_minus (pos (n c.args.a))) (omega (arith, c.requires)) in
    omega (arith, c.signed_residue.ensures, is.below)

pub returns-clause-symbol : goal.returns-clause-symbol
returns-clause-symbol g c =
    let n = g.T.RingWord.number in
    c.halve_and_swap.ensures.symbol ∙ ap (λ v. jacobi (pos v) (n c.args.n)) c.signed_residue.ensures
    ∙ sym (jacobi-residue (signed c.args.a_minus (pos (n c.args.a))) _ (omega (arith, c.requires)))
