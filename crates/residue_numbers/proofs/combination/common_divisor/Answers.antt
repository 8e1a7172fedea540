use Rattle.std.proofs.Common.{◌≡◌, arith, sym, subst}
use Rattle.std.proofs.lemmas.Nat.Gcd.{IsGcd-from_zero, IsGcd-from_mod}
use Rattle.num_modular.specs.Divisors.{IsGreatestCommonDivisor, gcd}
use Rattle.residue_numbers.proofs.Combinations.{euclid_is, parts_of}
use Rattle.residue_numbers.proofs.combination.common_divisor.Goals as goal

pub steps-preserved : goal.steps-preserved
steps-preserved c g is = c.steps.invariant g (IsGcd-from_mod c.steps.divisor c.steps.rest g is)

pub returns-clause-greatest : goal.returns-clause-greatest
returns-clause-greatest c =
    let none : c.steps.rest ≡ 0 = omega arith in
    euclid_is c.args.m c.args.n c.steps.divisor (gcd c.args.m c.args.n) c.requires
    (c.steps.invariant c.steps.divisor (IsGcd-from_zero c.steps.divisor c.steps.rest none))
    (c.divisor_laws.ensures.greatest c.args.m c.args.n c.requires)

pub returns-clause-parts : goal.returns-clause-parts
returns-clause-parts c =
    parts_of c.args.m c.args.n c.steps.divisor c.requires (subst (IsGreatestCommonDivisor c.args.m c.args.n)
    (sym (returns-clause-greatest c)) (c.divisor_laws.ensures.greatest c.args.m c.args.n c.requires))
