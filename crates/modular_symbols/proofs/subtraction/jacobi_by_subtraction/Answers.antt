-- The residue has the symbol of the number.
use Rattle.std.proofs.Common.{arith, rules, ◌∙◌, ap, sym, pos}
use Rattle.modular_symbols.specs.Jacobi.{jacobi}
use Rattle.modular_symbols.specs.Kronecker.{signed}
use Rattle.modular_symbols.proofs.JacobiLaws.{jacobi-residue}
use Rattle.std.proofs.lemmas.Int.{to_z-of_z}
use Rattle.std.specs.Int.{w8}
use Rattle.modular_symbols.proofs.subtraction.jacobi_by_subtraction.Goals as goal

pub returns : goal.returns
returns g c =
    let n = g.T.RingWord.number in
    to_z-of_z w8 _ (search rules) ∙ c.subtract_and_halve.ensures
    ∙ ap (λ v. jacobi (pos v) (n c.args.n)) c.signed_residue.ensures
    ∙ sym (jacobi-residue (signed c.args.a_minus (pos (n c.args.a))) _ (omega (arith, c.requires)))
