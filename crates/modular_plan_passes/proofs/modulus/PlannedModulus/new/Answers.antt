use Rattle.std.proofs.Common.{subst, arith}
use Rattle.modular_word.specs.Reciprocals.{IsReciprocal}
use Rattle.modular_prim.proofs.Scaled.{scaled_to_top}
use Rattle.modular_plan_passes.proofs.modulus.PlannedModulus.new.Goals as goal

pub shift_left-requires : goal.shift_left-requires
shift_left-requires g c =
    let zeros = c.leading_zeros-shift.ensures in
    let s = scaled_to_top _ _ _ _ g.met.T.PathWord.base_is c.requires.some zeros.fits zeros.value in
    record { by = s.inside; fits = s.fits }

pub invert_word-reciprocal-requires : goal.invert_word-reciprocal-requires
invert_word-reciprocal-requires g c =
    let zeros = c.leading_zeros-shift.ensures in
    let s = scaled_to_top _ _ _ _ g.met.T.PathWord.base_is c.requires.some zeros.fits zeros.value in
    omega (arith, s.top, c.shift_left.ensures)

pub invariant_of-result : goal.invariant_of-result
invariant_of-result g c =
    let zeros = c.leading_zeros-shift.ensures in
    let s = scaled_to_top _ _ _ _ g.met.T.PathWord.base_is c.requires.some zeros.fits zeros.value in
    record {
      some = c.requires.some;
      room = c.requires.room;
      shift_fits = s.inside;
      reciprocal_is = subst (λ d. IsReciprocal g.T.PathWord.base d
          (g.T.RingWord.number c.invert_word-reciprocal.result)) c.shift_left.ensures c.invert_word-reciprocal.ensures;
    }
