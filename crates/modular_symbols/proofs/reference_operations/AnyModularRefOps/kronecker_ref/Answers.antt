-- By the integers of the operands.
use Rattle.std.proofs.Common.{◌∙◌, ap, pos, rules}
use Rattle.modular_symbols.specs.Kronecker.{kronecker}
use Rattle.std.proofs.lemmas.Int.{to_z-of_z}
use Rattle.std.specs.Int.{w8}
use Rattle.modular_symbols.proofs.reference_operations.AnyModularRefOps.kronecker_ref.Goals as goal

pub returns : goal.returns
returns g c =
    to_z-of_z w8 _ (search rules) ∙ c.kronecker.ensures
    ∙ ap (λ z. kronecker z (g.T.IntegerValued.integer_value c.args.n.now))
    (g.met.T.UnsignedOperand.integer_is_number c.args.self.now)
    ∙ ap (λ z. kronecker (pos (g.T.Numbered.whole_number c.args.self.now)) z)
    (g.met.T.UnsignedOperand.integer_is_number c.args.n.now)
