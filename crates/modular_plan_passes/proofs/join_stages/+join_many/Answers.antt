use Rattle.std.proofs.Common.{◌≡◌, ℕ, ◌+◌, ◌-◌, ◌*◌, ◌<◌, arith}
use Rattle.modular_plan_passes.specs.Plans.{numbers}
use Rattle.modular_plan_passes.specs.Joins.{IsFourJoin}
use Rattle.modular_plan_passes.proofs.ListParts.{all_of_both}
use Rattle.modular_plan_passes.proofs.Runs.{stages_appended}
use Rattle.modular_plan_passes.proofs.join_stages.+join_many.Goals as goal

pub returns-else-blocks-run : goal.returns-else-blocks-run
returns-else-blocks-run g t c =
    let n = g.T.RingWord.number in
    let w = numbers g.F.PlanEntry.value c.args.table.now in
    let S = λ (e : ℕ). IsFourJoin (g.M.JoinSteps.modulus c.args.m.now) (w e) (w (2 * e)) (w (2 * e + 1)) in
    let blocks = c.args.blocks in
    let run = c.if-first-eq0.run in
    let front = c.join_run-else-blocks-run in
    let back = c.join_many in
    let low_length = c.split_at_mut-low.ensures.front_len in
    let total : run + (blocks - run) ≡ blocks = omega (arith, c.if-blocks-run.false) in
    let bound = g.M.JoinSteps.bound c.args.m.now in
    record {
      entries = all_of_both (λ x. n x < bound) _ _ front.ensures.entries back.ensures.entries;
      done = λ root z twiddles.
          rw (total, ← c.split_at_mut-low.ensures.value) at
          (stages_appended n S c.args.first run (blocks - run) _ _ front.new.xs back.new.xs low_length
          (omega (arith, front.auto.xs, low_length)) (front.ensures.done root z twiddles)
          (back.ensures.done root z twiddles));
    }
