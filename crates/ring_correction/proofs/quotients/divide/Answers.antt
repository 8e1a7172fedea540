use Rattle.num_modular.specs.Callers.{refl, arith, length, entry_read, ◌≡◌, held_forms, subst, ◌≤◌}
use Rattle.std.proofs.Common.{length-set, rules}
use Rattle.ring_correction.proofs.NearPairs.{found_none, found_kept, found_more, found_all, found_forms}
use Rattle.ring_correction.proofs.NearPairs.{distance_grows_at_most_one}
use Rattle.ring_codes.proofs.Distances.{none_counted}
use Rattle.ring_correction.proofs.quotients.divide.Goals as goal

pub points-init : goal.points-init
points-init g c =
    let none = subst (λ v. v ≤ 0) (none_counted _ _) (omega arith) in
    (c.requires.some, omega arith, λ l. absurd (omega arith), none, found_none _ _ _ _ _ _ _ _ _)

pub points-preserved-in-Ok-None : goal.points-preserved-in-Ok-None
points-preserved-in-Ok-None g c =
    let (below, few, _, zeros, found) = c.points.invariant in
    let none = rw c.in-Ok-None.field-0-is at c.in-Ok-None.ensures.quotient in
    let point = entry_read g.T.RingWord.number g.R.Reducer.value (g.R.Reducer.modulus c.args.r.now) c.args.points.now
    c.points.i _ (omega arith) c.index-points-i.is in (
      below,
      omega (arith, few),
      λ l. none.1,
      (distance_grows_at_most_one _ _ _ zeros).1 (rw (← point) none.0),
      found_kept _ _ _ _ found,
    )

pub points-preserved : goal.points-preserved
points-preserved g c =
    let (below, few, _, zeros, found) = c.points.invariant in
    let same = length-set c.points.chosen c.points.found c.index-points-i-in-Ok-Some.result in
    let other = c.if-found-chosen.false in (
      omega (arith, below, other, same),
      omega (arith, few),
      λ l. c.points.invariant.2 (omega arith),
      (distance_grows_at_most_one _ _ _ zeros).0,
      found_more _ _ _ _ _ (omega (arith, below)) (omega (arith, below, c.requires.equal)) found c.requires.points
          (omega arith) c.index-points-i.is c.index-points-i-in-Ok-Some.is
          (rw c.in-Ok-Some.field-0-is at c.in-Ok-Some.ensures.quotient),
    )

pub returns-then-found-chosen : goal.returns-then-found-chosen
returns-then-found-chosen g c =
    let (below, _, _, _, found) = c.points.invariant in
    let same = length-set c.points.chosen c.points.found c.index-points-i-in-Ok-Some.result in
    let same_values = length-set c.points.values c.points.found c.in-Ok-Some.value in
    let last = c.if-found-chosen.true in let equal = c.requires.equal in
    let more = found_more _ _ _ _ _ (omega (arith, below)) (omega (arith, below, equal)) found c.requires.points
    (omega arith) c.index-points-i.is c.index-points-i-in-Ok-Some.is
    (rw c.in-Ok-Some.field-0-is at c.in-Ok-Some.ensures.quotient) in
    record {
      inverse = search rules;
      checked_chosen = λ t. held_forms _ _ _ _ _ _ _ more.chosen_there (omega (arith, same, last));
      checked_values = λ t. found_forms _ _ _ _ (omega (arith, same_values, equal, last)) more;
      quotients = λ t. found_all _ _ _ _ _ _ _ _ _ _ _ _ _ c.in-Ok-Some.value (omega (arith, same, last)) last
          (omega (arith, same_values, equal, last)) (omega arith) more;
      zeros = λ other. absurd (other refl);
    }

pub returns-clause-zeros : goal.returns-clause-zeros
returns-clause-zeros g c h =
    let (below, _, inverse, zeros, _) = c.points.invariant in let few = c.requires.few in
    let all : c.points.i ≡ length c.args.points.now = omega arith in
    (inverse (omega (arith, below, few)), rw (← all) (omega (arith, zeros, below)))
