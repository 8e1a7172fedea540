use Rattle.std.proofs.Common.{refl, ap, subst}
use Rattle.modular_reduced.specs.Integers.{IsModularQuotient, modulus_of, residue_of}
use Rattle.modular_reduced.proofs.IntegerLemmas.{quotient_by_inverse}
use Rattle.modular_reduced.proofs.reduced_int.operations.quotient.Goals as goal

pub returns : goal.returns
returns g c =
    let x = c.args.x in let number = g.T.RingWord.number in let value = g.R.Reducer.value in
    let canonical = g.met.R.Reducer.canonical x.reducer in
    let inverse = rw (← c.requires.0) at c.in-Some.ensures.value in
    let quotient = quotient_by_inverse _ _ _ _ _ x.checked.below canonical.positive inverse c.mul.ensures.value in
    let same = ap (λ k. value k (number c.args.y.form)) c.requires.0 in
    let q = value (modulus_of x) (number c.mul.result) in
    (refl, subst (λ v. IsModularQuotient (modulus_of x) (residue_of x) v q) same quotient)
