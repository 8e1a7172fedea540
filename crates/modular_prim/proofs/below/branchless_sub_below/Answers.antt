use Rattle.std.proofs.Common.{◌≡◌, ◌+◌, ◌-◌, arith, inl, inr}
use Rattle.std.proofs.lemmas.Bool.{cases_lt}
use Rattle.modular_prim.proofs.ResidueSteps.{residue_of_negative_difference, difference_above}
use Rattle.modular_prim.proofs.below.branchless_sub_below.Goals as goal

pub returns-clause-value : goal.returns-clause-value
returns-clause-value g c =
    let n = g.T.RingWord.number in
    let a = n c.args.a in
    let b = n c.args.b in
    elim (cases_lt a b) [
      | inl less ↦
          let e : n c.minus_modulo.result + (b - a) ≡ n c.args.m = omega (arith, c.minus_modulo.ensures.wrapped less) in
          residue_of_negative_difference _ _ _ _ _ c.requires.right less (omega arith) e
      | inr more ↦ difference_above _ _ _ _ c.requires.left (c.minus_modulo.ensures.plain more)
    ]
