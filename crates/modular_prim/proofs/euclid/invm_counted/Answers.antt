use Rattle.std.proofs.Common.{◌≡◌, ◌<◌, ◌≤◌, ◌%◌, refl, arith}
use Rattle.std.proofs.Math.Nat.{mod-eq_of_lt}
use Rattle.modular_prim.proofs.DivisionCounts.{counts_below, counts_above, counts_next}
use Rattle.modular_prim.proofs.DivisionCounts.{final_count_is_inverse_divisions, inverse_divisions-few}
use Rattle.modular_prim.proofs.EuclidSteps.{euclid_start, next_fits, division_step_keeps_euclid}
use Rattle.modular_prim.proofs.EuclidSteps.{euclid_found, euclid_found_negative, euclid_none}
use Rattle.modular_prim.proofs.euclid.invm_counted.Goals as goal
use Rattle.modular_prim.proofs.euclid.invm_counted.Goals.{then-is_below, else-is_below}

pub euclid-init : goal.euclid-init
euclid-init g c =
    let n = g.T.RingWord.number in
    let start : n c.if-not-is_below.r ≡ n c.args.a % n c.args.m = grind (arith, mod-eq_of_lt) in
    record {
      steps = euclid_start _ _ _ _ _ c.requires start c.zero-last_t.ensures c.one-t.ensures;
      counts = grind (arith, counts_above, counts_below);
      most = grind (arith, inverse_divisions-few);
    }

pub step-rest-requires-clause-fits : goal.step-rest-requires-clause-fits
step-rest-requires-clause-fits g c =
    let positive : 0 < g.T.RingWord.number c.euclid.r = grind arith in
    omega (arith, next_fits c.euclid.invariant.steps positive, c.is_below.ensures.other_fits)

pub overflow_add-count : goal.overflow_add-count
overflow_add-count g c = omega (arith, g.met.T.RingWord.width_to)

pub step-rest-requires-in-euclid-clause-fits : goal.step-rest-requires-in-euclid-clause-fits
step-rest-requires-in-euclid-clause-fits g c =
    let positive : 0 < g.T.RingWord.number c.euclid.r = grind arith in
    let some : 0 < g.T.RingWord.number c.step-rest.result.0 = grind arith in
    let halfway = division_step_keeps_euclid c.euclid.invariant.steps positive c.step-rest.ensures.rest
    c.step-rest.ensures.coefficient in
    omega (arith, next_fits halfway some, c.is_below.ensures.other_fits)

pub overflow_add-count-in-euclid : goal.overflow_add-count-in-euclid
overflow_add-count-in-euclid g c = grind arith

pub euclid-preserved : goal.euclid-preserved
euclid-preserved g c =
    let positive : 0 < g.T.RingWord.number c.euclid.r = grind arith in
    let some : 0 < g.T.RingWord.number c.step-rest.result.0 = grind arith in
    let first = c.step-rest.ensures in
    let second = c.step-rest-in-euclid.ensures in
    record {
      steps = division_step_keeps_euclid (division_step_keeps_euclid c.euclid.invariant.steps positive first.rest
          first.coefficient) some second.rest second.coefficient;
      counts = counts_next (counts_next c.euclid.invariant.counts positive first.rest) some second.rest;
      most = c.euclid.invariant.most;
    }

pub returns-then-is_zero_word : goal.returns-then-is_zero_word
returns-then-is_zero_word g c =
    let n = g.T.RingWord.number in
    let last = division_step_keeps_euclid c.euclid.invariant.steps (grind arith) c.step-rest.ensures.rest
    c.step-rest.ensures.coefficient in
    let count = final_count_is_inverse_divisions (counts_next c.euclid.invariant.counts (grind arith)
    c.step-rest.ensures.rest) (grind arith) in
    record {
      inverse = elim c.if-is_below.branch [
        | then-is_below w ↦
            rw w.inverse-is (λ x i. euclid_none _ _ _ _ _ _ x _ last (grind arith) (grind arith) i)
        | else-is_below w ↦
            rw w.inverse-is (euclid_found _ _ _ _ _ _ _ last refl (grind arith))
      ];
      count = count;
      at_most = omega (arith, count);
    }

pub returns-then-is_below-2 : goal.returns-then-is_below-2
returns-then-is_below-2 g c =
    let ended : g.T.RingWord.number c.euclid.r ≡ 0 = grind arith in
    let above : 1 < g.T.RingWord.number c.euclid.last_r = grind arith in
    let count = final_count_is_inverse_divisions c.euclid.invariant.counts ended in
    record {
      inverse = λ x i. euclid_none _ _ _ _ _ _ x _ c.euclid.invariant.steps ended above i;
      count = count;
      at_most = omega (arith, count);
    }

pub returns-else-is_below-2 : goal.returns-else-is_below-2
returns-else-is_below-2 g c =
    let ended : g.T.RingWord.number c.euclid.r ≡ 0 = grind arith in
    let small : g.T.RingWord.number c.euclid.last_r ≤ 1 = grind arith in
    let count = final_count_is_inverse_divisions c.euclid.invariant.counts ended in
    record {
      inverse = euclid_found_negative _ _ _ _ _ _ _ _ c.euclid.invariant.steps refl small c.neg_below.ensures.value;
      count = count;
      at_most = omega (arith, count);
    }
