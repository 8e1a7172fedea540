use Rattle.std.proofs.Common.{◌∙◌, sym, refl, lit<}
use Rattle.num_modular.specs.Inverses.{IsInverse}
use Rattle.examples.proofs.quotients.ten_by_five.Goals as goal

-- the witness: 5 * 17 is 85, which leaves 1 modulo 21
seventeen_inverts_five : IsInverse 21 5 17
seventeen_inverts_five = record { below = lit< tt; one = refl }

pub div-requires : goal.div-requires
div-requires c = (
  c.new-ten.ensures.modulus ∙ sym c.new-five.ensures.modulus,
  (17, rw (c.new-five.ensures.modulus, c.new-five.ensures.residue) seventeen_inverts_five),
)
