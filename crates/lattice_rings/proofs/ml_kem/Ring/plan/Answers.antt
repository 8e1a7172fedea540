use Rattle.std.proofs.Common.{refl, arith}
use Rattle.num_modular.specs.PlanLaws.{half_has_previous_exponent}
use Rattle.lattice_rings.proofs.Blocks.{root_table}
use Rattle.lattice_rings.proofs.Kem.{kem_zeta_suits}
use Rattle.lattice_rings.proofs.ml_kem.Ring.plan.Goals as goal

pub over-requires : goal.over-requires
over-requires c =
    let ring = c.args.self.now in
    let (suits, holds) = root_table (λ f. f.value) (λ f. f.quotient) 7 ring.table kem_zeta_suits ring.modulus_is
    (omega arith) ring.factors ring.powers in
    record { odd = search arith; below = search arith; suits = suits; holds = holds }

pub returns-clause-bits : goal.returns-clause-bits
returns-clause-bits c =
    let is = half_has_previous_exponent c.over.result.bits 128 7 (let e = c.over.ensures.entries in omega (arith, e))
    refl in
    omega (arith, is)
