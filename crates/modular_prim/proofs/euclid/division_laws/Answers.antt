use Rattle.std.proofs.Common.{refl}
use Rattle.modular_prim.proofs.DivisionCounts.{divisions-none, divisions-next, divisions-power}
use Rattle.modular_prim.proofs.euclid.division_laws.Goals as goal

pub returns : goal.returns
returns c =
    record {
      none = λ u. divisions-none u _ refl;
      next = divisions-next;
      few = divisions-power;
    }
