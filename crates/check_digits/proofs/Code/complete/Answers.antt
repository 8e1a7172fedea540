use Rattle.std.proofs.Common.{rules, ◌+◌, ◌%◌, sym, ◌∙◌, ap}
use Rattle.num_modular.specs.NumberLaws.{difference_and, inverse_mod}
use Rattle.check_digits.proofs.CheckSums.{completed_sum, one_completion}
use Rattle.check_digits.proofs.Code.complete.Goals as goal

pub div-quotient-requires : goal.div-quotient-requires
div-quotient-requires c = (
  c.convert.ensures.modulus,
  rw c.new-divisor.ensures.modulus (rw c.new-divisor.ensures.residue (c.requires.0, inverse_mod _ _ _ c.requires.1)),
)

pub returns-clause-leaves : goal.returns-clause-leaves
returns-clause-leaves c =
    let m = c.args.self.now.modulus in
    completed_sum m c.args.sum c.args.weight c.residue.result c.subm.result c.args.self.now.residue (cc)
    (ap (λ k. (k + c.args.sum) % m) c.subm.ensures
    ∙ difference_and m c.args.self.now.residue c.args.sum c.args.self.now.positive)

pub returns-clause-below : goal.returns-clause-below
returns-clause-below c = search rules

pub returns-clause-only : goal.returns-clause-only
returns-clause-only c t below leaves =
    one_completion _ _ _ _ t c.requires (returns-clause-below c) below (returns-clause-leaves c ∙ sym leaves)
