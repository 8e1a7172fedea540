use Rattle.std.proofs.Common.{arith, ◌∙◌, refl}
use Rattle.modular_word.proofs.Lifting.{lift_start, lift_step, lift_end}
use Rattle.modular_word.proofs.paths.neginv.Goals as goal

pub lift-init : goal.lift-init
lift-init g c = record { lifted = lift_start g.T.RingWord.width _ _ c.requires refl; some = omega arith }

pub lift-preserved : goal.lift-preserved
lift-preserved g c =
    record {
      lifted =
          lift_step _ _ _ _ _ _ _ _ _ g.met.T.PathWord.base_is
          c.lift.invariant.lifted c.wrapping_mul.ensures.value (c.wrapping_sub.ensures.value ∙ c.two-two.ensures)
          c.wrapping_mul-inverse.ensures.value refl;
      some = omega (arith, c.lift.invariant.some);
    }

pub returns : goal.returns
returns g c =
    record {
      product =
          lift_end _ _ _ _ _ _ g.met.T.PathWord.base_is g.met.T.RingWord.width_from c.lift.invariant.lifted
          (omega (arith, c.lift-test.false, c.bits.ensures)) (c.wrapping_sub-2.ensures.value ∙ c.zero.ensures);
    }
