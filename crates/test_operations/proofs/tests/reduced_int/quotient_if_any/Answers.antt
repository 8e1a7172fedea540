use Rattle.std.proofs.Common.{◌∙◌, sym, refl, rules}
use Rattle.test_operations.proofs.tests.reduced_int.quotient_if_any.Goals as goal

pub div-requires : goal.div-requires
div-requires g c = (
  sym c.modulus.ensures
      ∙ (g.met.T.RingWord.equal c.modulus.result c.modulus-2.result).0 (sym c.if-eq.ensures) ∙ c.modulus-2.ensures,
  search rules,
)

pub returns-then-is_some-clause-some : goal.returns-then-is_some-clause-some
returns-then-is_some-clause-some g c = (
  λ t. (
    sym c.modulus.ensures
        ∙ (g.met.T.RingWord.equal c.modulus.result c.modulus-2.result).0 (sym c.if-eq.ensures) ∙ c.modulus-2.ensures,
    search rules,
  ),
  λ d. refl,
)

pub returns-then-is_some-clause-quotient : goal.returns-then-is_some-clause-quotient
returns-then-is_some-clause-quotient g c = c.div.ensures

pub returns-else-eq-clause-quotient : goal.returns-else-eq-clause-quotient
returns-else-eq-clause-quotient g c = tt
