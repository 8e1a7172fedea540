use Rattle.num_modular.specs.Callers.{ℕ, ◌∙◌, length, entry}
use Rattle.num_modular.specs.Inverses.{HasInverse}
use Rattle.std.proofs.Common.{◌<◌, arith}
use Rattle.ring_decoder.proofs.NearLocators.{AreSought, located_by, none_near_by}
use Rattle.ring_decoder.proofs.search.locate.Goals as goal
use Rattle.ring_decoder.proofs.search.locate.Goals.{After-fill_moments}

-- what the locator is found from
search_inputs_are_sought : (g : _) (c : After-fill_moments g) (v : ℕ → ℕ)
    → ((i : ℕ) → i < length c.args.points.now → HasInverse (g.R.Reducer.modulus c.args.r.now) (v i))
    → let ring = g.R.Reducer in let m = ring.modulus c.args.r.now in
    let entries = entry g.T.RingWord.number ring.value m in
    AreSought m (length c.args.syndromes.now) (length c.args.points.now) (length c.copy_points.new.located)
    (length c.fill_moments.new.moments) (entries c.args.points.now) v
    (entries c.copy_points.new.located) c.args.lost.now
    (entries c.args.syndromes.now) (entries c.fill_moments.new.moments)
search_inputs_are_sought g c v units = record {
  two = omega (arith, (g.met.R.Reducer.canonical c.args.r.now).positive, c.requires.modulus);
  few = c.requires.few;
  places = c.requires.places;
  count = c.copy_points.auto.located ∙ c.split_at_mut-located.ensures.front_len;
  rest = c.fill_moments.auto.moments ∙ c.split_at_mut-moments.ensures.front_len;
  fit = c.requires.fit;
  units = units;
  there = c.copy_points.ensures.same;
  sums = λ w is. rw c.fill_moments.auto.moments (c.fill_moments.ensures.moments _ _ w is);
}

pub returns-in-None-clause-located : goal.returns-in-None-clause-located
returns-in-None-clause-located g c v units errors near =
    let at = (goal.at.returns-in-None-clause-located g c).After-fill_moments in
    none_near_by (search_inputs_are_sought g at v units) c.in-None.ensures.located errors near

pub returns-in-Some-clause-located : goal.returns-in-Some-clause-located
returns-in-Some-clause-located g c v units =
    let at = (goal.at.returns-in-Some-clause-located g c).After-fill_moments in
    located_by (search_inputs_are_sought g at v units) c.in-Some.ensures.located
    c.fill_values_of-of_values.ensures.values
    c.clear_lost.ensures.cleared c.in-Some.ensures.unit c.in-Some.ensures.one
