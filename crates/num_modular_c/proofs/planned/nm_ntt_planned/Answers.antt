use Rattle.std.proofs.Common.{arith}
use Rattle.std.proofs.Math.Nat.{div-one}
use Rattle.num_modular_c.proofs.planned.nm_ntt_planned.Goals as goal

pub ntt_planned-requires-clause-count : goal.ntt_planned-requires-clause-count
ntt_planned-requires-clause-count c =
    rw div-one at (c.split_code-code.ensures.fits.0 c.if-code-eq-NM_OK.true).0.blocks.count

pub ntt_planned-requires-clause-within : goal.ntt_planned-requires-clause-within
ntt_planned-requires-clause-within c =
    omega (arith, (c.split_code-code.ensures.fits.0 c.if-code-eq-NM_OK.true).0.blocks.within)

pub returns-then-code-eq-NM_OK-clause-did : goal.returns-then-code-eq-NM_OK-clause-did
returns-then-code-eq-NM_OK-clause-did c split factors = (
  c.if-code-eq-NM_OK.true,
  rw (← c.new.ensures) (record { below = c.ntt_planned.ensures.below; values = c.ntt_planned.ensures.values }),
)
