use Rattle.std.proofs.Common.{◌<◌, All}
use Rattle.modular_bench.proofs.plans.carried_out.Goals as goal
use Rattle.modular_bench.proofs.plans.carried_out.Goals.{in-0, in-1, in-3, in_default}

pub turns-preserved : goal.turns-preserved
turns-preserved g c =
    let number = g.T.RingWord.number in
    let m = number c.args.plan.now.modulus.modulus in
    let before = c.turns.invariant in
    let both : All (λ x. number x < m) c.match-operation.xs × All (λ x. number x < m) c.match-operation.ys =
    elim c.match-operation.branch [
      | in-0 w ↦ (rw w.xs-is before.entries_xs, rw w.ys-is before.entries_ys)
      | in-1 w ↦ (rw w.xs-is w.split.ensures.below, rw w.ys-is before.entries_ys)
      | in-3 w ↦ (rw w.xs-is w.transform.ensures.below, rw w.ys-is before.entries_ys)
      | in_default w ↦ (rw w.xs-is w.convolve.ensures.below.0, rw w.ys-is w.convolve.ensures.below.1)
    ] in
    record { entries_xs = both.0; entries_ys = both.1 }
