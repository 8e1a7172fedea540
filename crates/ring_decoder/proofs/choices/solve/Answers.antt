use Rattle.num_modular.specs.Callers.{◌∙◌, ap, refl, arith, length, entry}
use Rattle.std.proofs.lemmas.Bool.{false≢true}
use Rattle.ring_decoder.proofs.ChosenPlaces.{chosen_values_exist, chosen_fit, chosen_units, AreChosenPoints}
use Rattle.ring_decoder.proofs.SolvedErrors.{solved_sums, covered_sums, covered_weight}
use Rattle.ring_decoder.specs.ErrorPatterns.{zeros, listed_weight}
use Rattle.ring_decoder.proofs.choices.solve.Goals as goal
use Rattle.ring_decoder.proofs.choices.solve.Goals.{After-gather-2}

-- the chosen points and weights
gathered_entries_are_chosen : (g : _) (c : After-gather-2 g)
    → let entries = entry g.T.RingWord.number g.R.Reducer.value (g.R.Reducer.modulus c.args.r.now) in
    AreChosenPoints (length c.args.points.now) (length c.gather.new.chosen) (entries c.args.values.now)
    (entries c.args.points.now) (entries c.args.weights.now) (entries c.gather.new.chosen)
    (entries c.gather-2.new.chosen)
gathered_entries_are_chosen g c =
    let z = entry g.T.RingWord.number g.R.Reducer.value (g.R.Reducer.modulus c.args.r.now) c.args.values.now in
    let each = c.requires.each_value in
    record {
      count = c.gather.auto.chosen ∙ c.split_at_mut-chosen.ensures.front_len ∙ c.count_zeros-q.ensures
          ∙ ap (λ k. zeros k z) each;
      points = rw each at c.gather.ensures.chosen;
      weights = rw each at c.gather-2.ensures.chosen;
    }

pub solve_chosen-requires-clause-fit : goal.solve_chosen-requires-clause-fit
solve_chosen-requires-clause-fit g c =
    let m = g.R.Reducer.modulus c.args.r.now in
    let known = gathered_entries_are_chosen g (goal.at.solve_chosen-requires-clause-fit g c).After-gather-2 in
    rw known.count (chosen_fit m _ _ _ _ known.points c.requires.fit)

pub solve_chosen-requires-clause-units : goal.solve_chosen-requires-clause-units
solve_chosen-requires-clause-units g c i l =
    let known = gathered_entries_are_chosen g (goal.at.solve_chosen-requires-clause-units g c).After-gather-2 in
    chosen_units _ _ _ _ _ known.weights c.requires.units i (omega (arith, l, known.count))

pub returns-then-not-solve_chosen-clause-solved : goal.returns-then-not-solve_chosen-clause-solved
returns-then-not-solve_chosen-clause-solved g c e near covers =
    let known = gathered_entries_are_chosen g (goal.at.returns-then-not-solve_chosen-clause-solved g c).After-gather-2
    in
    let z = entry g.T.RingWord.number g.R.Reducer.value (g.R.Reducer.modulus c.args.r.now) c.args.values.now in
    absurd (false≢true (c.if-not-solve_chosen.ensures.only (chosen_values_exist (length c.args.points.now) z e).0
    (covered_sums _ _ e _ known covers near.sums)).0)

pub returns-then-wrong-syndromes-clause-solved : goal.returns-then-wrong-syndromes-clause-solved
returns-then-wrong-syndromes-clause-solved g c e near covers =
    let known = gathered_entries_are_chosen g (goal.at.returns-then-wrong-syndromes-clause-solved g c).After-gather-2 in
    let m = g.R.Reducer.modulus c.args.r.now in let entries = entry g.T.RingWord.number g.R.Reducer.value m in
    let f = entries c.scatter.new.errors in let lost = c.args.lost.now in
    let only = c.if-not-solve_chosen.ensures.only (chosen_values_exist (length c.args.points.now)
    (entries c.args.values.now) e).0
    (covered_sums _ _ e _ known covers near.sums) in
    let weight = covered_weight m _ lost e (entries c.solve_chosen.new.errors) f known covers only.1
    (λ i l. c.scatter.ensures.errors i (omega (arith, l, c.requires.each_value))) in
    let wrong = c.count_wrong-wrong.ensures
    ∙ ap (λ k. listed_weight m k lost f) (c.scatter.auto.errors ∙ c.requires.room) in
    absurd (omega (arith, c.if-wrong-syndromes.true, wrong, weight, near.few))

pub returns-else-wrong-syndromes-clause-solved : goal.returns-else-wrong-syndromes-clause-solved
returns-else-wrong-syndromes-clause-solved g c =
    let known = gathered_entries_are_chosen g (goal.at.returns-else-wrong-syndromes-clause-solved g c).After-gather-2 in
    let m = g.R.Reducer.modulus c.args.r.now in let entries = entry g.T.RingWord.number g.R.Reducer.value m in
    let f = entries c.scatter.new.errors in let each = c.requires.each_value in
    let wrong = c.count_wrong-wrong.ensures
    ∙ ap (λ k. listed_weight m k c.args.lost.now f) (c.scatter.auto.errors ∙ c.requires.room) in (
      c.scatter.ensures.checked,
      record {
        pattern = record {
          sums = solved_sums m _ f (entries c.solve_chosen.new.errors) _ known
              (λ i l. c.scatter.ensures.errors i (omega (arith, l, each))) (c.if-not-solve_chosen.ensures.sums refl);
          few = omega (arith, c.if-wrong-syndromes.false, wrong);
        };
        count = wrong;
      },
    )
