use Rattle.std.proofs.Common.{arith}
use Rattle.modular_ring.proofs.RunLemmas.{ends_at, goes_both, next_ready, true_not_false}
use Rattle.modular_ring.proofs.ring.carry_out_four.Goals as goal

pub carry_out_two-requires-then-carry_out_two : goal.carry_out_two-requires-then-carry_out_two
carry_out_two-requires-then-carry_out_two g c =
    next_ready c.requires c.carry_out_two.ensures
    (omega (arith, c.requires.within, c.carry_out_two.ensures.moved c.if-carry_out_two.true))

pub returns-then-carry_out_two : goal.returns-then-carry_out_two
returns-then-carry_out_two g c =
    let second = c.carry_out_two-then-carry_out_two.ensures in
    ends_at (goes_both c.carry_out_two.ensures second)
    (λ fails. fails) (λ holds. omega (arith, c.carry_out_two.ensures.moved c.if-carry_out_two.true, second.moved holds))

pub returns-else-carry_out_two : goal.returns-else-carry_out_two
returns-else-carry_out_two g c =
    ends_at c.carry_out_two.ensures (λ fails. fails) (λ holds. absurd (true_not_false holds c.if-carry_out_two.false))
