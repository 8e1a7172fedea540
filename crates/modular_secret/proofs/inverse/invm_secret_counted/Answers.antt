use Rattle.std.proofs.Common.{rules, ◌≡◌, ◌≢◌, sym, ◌∙◌}
use Rattle.modular_prim.proofs.DifferenceSteps.{last_inverse}
use Rattle.modular_secret.proofs.HalvingSteps.{last_value_excludes_inverse, last_difference, last_sign}
use Rattle.modular_secret.proofs.HalvingSteps.{chosen_value_below_modulus}
use Rattle.modular_secret.proofs.inverse.invm_secret_counted.Goals as goal

pub divided_by_twos-inverse-requires-clause-below : goal.divided_by_twos-inverse-requires-clause-below
divided_by_twos-inverse-requires-clause-below g c =
    chosen_value_below_modulus _ _ _ _ _ (λ e. c.chosen-factor.ensures.all (c.odd_mask.ensures.all e))
    (λ e. c.chosen-factor.ensures.none (c.odd_mask.ensures.none e)) c.last_pair-count.ensures.pair.below_factor
    (c.negative.ensures.below c.last_pair-count.ensures.pair.below_factor)

pub returns-then-eq-clause-inverse : goal.returns-then-eq-clause-inverse
returns-then-eq-clause-inverse g c =
    let one : g.T.RingWord.number c.last_pair-count.result.0.below ≡ 1 = (g.met.T.RingWord.equal _ _).0 (search rules)
    ∙ c.one.ensures in
    let sign = last_sign _ _ _ _ _ (λ e. c.chosen-factor.ensures.all (c.odd_mask.ensures.all e))
    (λ e. c.chosen-factor.ensures.none (c.odd_mask.ensures.none e))
    (c.negative.ensures.congruent c.last_pair-count.ensures.pair.below_factor) in
    last_inverse _ _ _ _ _ _ _ _ _ _ c.requires
    (last_difference _ _ _ _ _ _ _ _ _ _ c.last_pair-count.ensures.pair one) one sign
    c.divided_by_twos-inverse.ensures.below c.divided_by_twos-inverse.ensures.value

pub returns-else-eq-clause-inverse : goal.returns-else-eq-clause-inverse
returns-else-eq-clause-inverse g c y i =
    let other : g.T.RingWord.number c.last_pair-count.result.0.below ≢ 1 =
    λ e. let same = (g.met.T.RingWord.equal c.last_pair-count.result.0.below c.one.result).1 (e ∙ sym c.one.ensures) in
    search rules in
    last_value_excludes_inverse _ _ _ _ _ _ _ _ _ _ y c.last_pair-count.ensures.pair other i
