use Rattle.std.proofs.Common.{arith}
use Rattle.modular_ring.proofs.RunLemmas.{ends_at, goes_both, next_ready, true_not_false}
use Rattle.modular_ring.proofs.ring.carry_out_two.Goals as goal

pub carry_out_at-requires-then-carry_out_at : goal.carry_out_at-requires-then-carry_out_at
carry_out_at-requires-then-carry_out_at g c =
    next_ready c.requires c.carry_out_at.ensures
    (omega (arith, c.requires.within, c.carry_out_at.ensures.moved c.if-carry_out_at.true))

pub returns-then-carry_out_at : goal.returns-then-carry_out_at
returns-then-carry_out_at g c =
    let second = c.carry_out_at-then-carry_out_at.ensures in
    ends_at (goes_both c.carry_out_at.ensures second)
    (λ fails. fails) (λ holds. omega (arith, c.carry_out_at.ensures.moved c.if-carry_out_at.true, second.moved holds))

pub returns-else-carry_out_at : goal.returns-else-carry_out_at
returns-else-carry_out_at g c =
    ends_at c.carry_out_at.ensures (λ fails. fails) (λ holds. absurd (true_not_false holds c.if-carry_out_at.false))
