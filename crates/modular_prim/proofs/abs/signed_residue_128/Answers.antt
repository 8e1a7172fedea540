use Rattle.std.proofs.Common.{arith}
use Rattle.std.proofs.Math.Nat.{mod_self, mod-eq_of_lt}
use Rattle.modular_prim.proofs.ResidueSteps.{neg_value}
use Rattle.modular_prim.proofs.abs.signed_residue_128.Goals as goal

pub returns-then-rest-eq0 : goal.returns-then-rest-eq0
returns-then-rest-eq0 c = grind (arith, neg_value, mod_self)

pub returns-else-rest-eq0 : goal.returns-else-rest-eq0
returns-else-rest-eq0 c = grind (arith, neg_value, mod-eq_of_lt)
