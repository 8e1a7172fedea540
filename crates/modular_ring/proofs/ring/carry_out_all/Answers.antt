use Rattle.std.proofs.Common.{arith, refl}
use Rattle.modular_ring.proofs.RunLemmas.{ends_at, goes_both, goes_nowhere, next_ready, true_not_false}
use Rattle.modular_ring.proofs.ring.carry_out_all.Goals as goal

pub fours-init : goal.fours-init
fours-init g c = (goes_nowhere c.requires, c.requires.within)

pub carry_out_four-requires : goal.carry_out_four-requires
carry_out_four-requires g c =
    next_ready c.requires c.fours.invariant.0 (omega (arith, c.fours.invariant.1, c.fours-test.true))

pub returns-then-not-carry_out_four : goal.returns-then-not-carry_out_four
returns-then-not-carry_out_four g c =
    ends_at (goes_both c.fours.invariant.0 c.carry_out_four.ensures) (λ same. c.if-not-carry_out_four.true)
    (λ holds. absurd (true_not_false holds refl))

pub fours-preserved : goal.fours-preserved
fours-preserved g c = (
  ends_at (goes_both c.fours.invariant.0 c.carry_out_four.ensures) (λ fails. absurd (true_not_false refl fails))
      (λ holds. refl),
  omega (arith, c.carry_out_four.ensures.moved c.if-not-carry_out_four.false, c.fours-test.true),
)

pub carry_out_at-requires : goal.carry_out_at-requires
carry_out_at-requires g c = next_ready c.requires c.commands.invariant.0 (omega (arith, c.commands-test.true))

pub returns-then-not-carry_out_at : goal.returns-then-not-carry_out_at
returns-then-not-carry_out_at g c =
    ends_at (goes_both c.commands.invariant.0 c.carry_out_at.ensures) (λ same. c.if-not-carry_out_at.true)
    (λ holds. absurd (true_not_false holds refl))

pub commands-preserved : goal.commands-preserved
commands-preserved g c = (
  ends_at (goes_both c.commands.invariant.0 c.carry_out_at.ensures) (λ fails. absurd (true_not_false refl fails))
      (λ holds. refl),
  omega (arith, c.carry_out_at.ensures.moved c.if-not-carry_out_at.false, c.commands-test.true),
)

pub returns : goal.returns
returns g c =
    ends_at c.commands.invariant.0 (λ fails. fails)
    (λ holds. omega (arith, c.commands-test.false, c.commands.invariant.1))
