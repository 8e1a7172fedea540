use Rattle.std.proofs.Common.{◌/◌, refl}
use Rattle.std.proofs.lemmas.Bool.{false≢true}
use Rattle.residue_numbers.proofs.Combinations.{combination_is, divides_exactly, same_of_common}
use Rattle.residue_numbers.proofs.combination.combine.Goals as goal

pub returns-then-difference-divisor-ne0-clause-number : goal.returns-then-difference-divisor-ne0-clause-number
returns-then-difference-divisor-ne0-clause-number c x common =
    let parts = c.common_divisor-divisor.ensures.parts in
    let exactly = divides_exactly _ _ _ _ c.args.a c.args.b _ refl parts c.difference_modulo-difference.ensures in
    c.if-difference-divisor-ne0.true (exactly.1 (same_of_common _ _ _ c.args.a c.args.b x parts common))

pub returns-then-difference-divisor-ne0-clause-exactly : goal.returns-then-difference-divisor-ne0-clause-exactly
returns-then-difference-divisor-ne0-clause-exactly c = (
  λ t. absurd (false≢true t),
  λ same. absurd (c.if-difference-divisor-ne0.true ((divides_exactly _ _ _ _ c.args.a c.args.b _
      c.common_divisor-divisor.ensures.greatest c.common_divisor-divisor.ensures.parts
      c.difference_modulo-difference.ensures).1 same)),
)

pub returns-clause-number : goal.returns-clause-number
returns-clause-number c =
    let m = c.args.m in let n = c.args.n in let g = c.common_divisor-divisor.result in
    let parts = c.common_divisor-divisor.ensures.parts in
    let steps = c.quotient_modulo-steps in
    let unit = (c.inverse_laws.ensures.coprime (n / g) (m / g) parts.step).1 parts.coprime in
    simp (c.from.ensures, c.from-2.ensures, c.from-3.ensures, c.from-4.ensures, c.from-5.ensures)
    (combination_is c.congruence_laws.ensures.quotients m n g c.args.a c.args.b c.difference_modulo-difference.result
    steps.result parts c.requires.m unit c.if-difference-divisor-ne0.false steps.ensures.solved steps.ensures.below
    c.difference_modulo-difference.ensures)

pub returns-clause-exactly : goal.returns-clause-exactly
returns-clause-exactly c = (
  λ t. (divides_exactly _ _ _ _ c.args.a c.args.b _ c.common_divisor-divisor.ensures.greatest
      c.common_divisor-divisor.ensures.parts c.difference_modulo-difference.ensures).0
      c.if-difference-divisor-ne0.false,
  λ same. refl,
)
