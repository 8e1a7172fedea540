use Rattle.std.proofs.Common.{◌∙◌}
use Rattle.std.proofs.Math.Nat.{mul-one}
use Rattle.modular_word.proofs.Congruence.{mod_of_eq, mod_refl, mod_trans, mod_mul, residue_of}
use Rattle.modular_plan_passes.proofs.modulus.RoomyModulus.residue.Goals as goal

pub returns : goal.returns
returns g c =
    let x = g.T.RingWord.number c.args.x in
    let unit = mod_trans (mod_of_eq c.args.self.now.is_one) (residue_of 1) in
    c.product.ensures ∙ (mod_trans (mod_mul (mod_refl x) unit) (mod_of_eq (mul-one x))).same
