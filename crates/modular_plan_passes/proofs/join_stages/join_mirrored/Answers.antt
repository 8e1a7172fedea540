use Rattle.std.proofs.Common.{ℕ, ◌≤◌, ◌+◌, ◌-◌, ◌*◌, length, ◌∙◌, arith, refl}
use Rattle.modular_plan_passes.specs.Factors.{IsFactor}
use Rattle.modular_plan_passes.specs.Plans.{numbers}
use Rattle.modular_plan_passes.proofs.FourColumns.{neighbours_given, factor_read}
use Rattle.modular_plan_passes.proofs.Entries.{all_below, never_beyond}
use Rattle.modular_plan_passes.proofs.Fours.{block_mapped, neighbours_done, neighbours_below, stage_of_fours_none}
use Rattle.modular_plan_passes.proofs.Fours.{stage_of_fours_more, stage_of_fours_all}
use Rattle.modular_plan_passes.proofs.ListParts.{all_in_front, all_behind}
use Rattle.modular_plan_passes.proofs.Runs.{front_of, shorter_front, read_at_end, mirrored_inverses, inverses_of}
use Rattle.modular_plan_passes.proofs.join_stages.join_mirrored.Goals as goal

pub fours-init : goal.fours-init
fours-init g c = search (arith, stage_of_fours_none, front_of, all_in_front)

pub returns-then-is_beyond : goal.returns-then-is_beyond
returns-then-is_beyond g c =
    never_beyond g.T.RingWord.number _ c.fours.xs c.args.xs.now (c.fours.p * 4) _ c.requires.pass.entries (omega arith)
    (omega arith) c.index-xs-place.is (c.fours.invariant.kept (c.fours.p * 4) (omega arith))
    (omega (arith, c.if-is_beyond.ensures refl, g.met.M.JoinSteps.room c.args.m.now))

pub invariant_of-step : goal.invariant_of-step
invariant_of-step g c = search (arith, all_behind, factor_read)

pub neighbours-requires : goal.neighbours-requires
neighbours-requires g c =
    neighbours_given _ c.fours.p _ _ c.requires.pass.entries c.fours.invariant.kept (omega arith) (omega arith)

pub fours-preserved : goal.fours-preserved
fours-preserved g c =
    let step = c.neighbours.ensures in
    let before = c.fours.invariant in
    let modulus = g.M.JoinSteps.modulus c.args.m.now in
    let P = λ (f : g.row.F.Denot).
    IsFactor g.T.PathWord.base modulus (g.F.PlanEntry.value f) (g.F.PlanEntry.quotient f) in
    let w = numbers g.F.PlanEntry.value c.args.table.now in
    let p = c.fours.p in
    let other : ℕ = c.args.last - p in
    let own = c.split_at-in-fours.ensures in
    let halves = c.split_at-in-fours-2.ensures in
    let at = c.requires.mirrored in
    let less = c.fours-test.true in
    let within : p ≤ c.args.last = omega (arith, at.2, at.3, less) in
    let ends = c.split_at-in-fours.result in
    let half_ends = c.split_at-in-fours-2.result in
    let own_at = read_at_end ends.0.now ends.1.now 0 other _ before.own own.by_index.0
    (omega (arith, own.front_len, before.own_length, within))
    (omega (arith, own.back_len, before.own_length, within)) c.index-one-0.is in
    let low_at = read_at_end half_ends.0.now half_ends.1.now 1 (2 * other + 1) _ before.halves halves.by_index.0
    (omega (arith, halves.front_len, before.halves_length, within))
    (omega (arith, halves.back_len, before.halves_length, within)) c.index-two-1.is in
    let high_at = read_at_end half_ends.0.now half_ends.1.now 0 (2 * other) _ before.halves halves.by_index.0
    (omega (arith, halves.front_len, before.halves_length, within))
    (omega (arith, halves.back_len, before.halves_length, within)) c.index-two-0.is in
    record {
      kept = λ k l. step.kept k (omega arith) (omega arith) (omega arith) (omega arith) ∙ before.kept k (omega arith);
      below = neighbours_below p before.below step;
      done = λ root z twiddles.
          stage_of_fours_more _ 1 p _ _ _ (before.done root z twiddles)
          (block_mapped (λ a b c' d e f g' h is. is.each _ _ _ (inverses_of (c.factor-w.ensures.value ∙ own_at)
          (c.factor-u.ensures.value ∙ low_at) (c.factor-v.ensures.value ∙ high_at)
          (mirrored_inverses root z _ at.0 (c.args.first + p) other w twiddles
          (omega (arith, c.requires.pass.within, less)) (omega (arith, at.1)) (omega (arith, at.2, less))
          (omega (arith, at.3, within)))))
          (neighbours_done (p * 4) step));
      own = shorter_front _ _ _ _ _ before.own own.by_index.0;
      own_length = omega (arith, own.front_len, before.own_length, within);
      own_factors = all_in_front P _ ends.1.now (rw own.by_index.0 at before.own_factors);
      halves = shorter_front _ _ _ _ _ before.halves halves.by_index.0;
      halves_length = omega (arith, halves.front_len, before.halves_length, within);
      halves_factors = all_in_front P _ half_ends.1.now (rw halves.by_index.0 at before.halves_factors);
    }

pub returns : goal.returns
returns g c = record {
  entries = all_below g.T.RingWord.number (g.M.JoinSteps.bound c.args.m.now) (length c.args.xs.now) c.fours.xs
      (omega arith) (λ k l. c.fours.invariant.below k (omega arith));
  done = λ root z twiddles. stage_of_fours_all (c.fours.invariant.done root z twiddles) (omega arith);
}
