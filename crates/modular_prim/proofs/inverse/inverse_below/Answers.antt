use Rattle.std.proofs.Common.{◌≡◌, ◌≢◌, ◌+◌, ◌*◌, ◌^◌, Bool, true, false, not, ap, sym, ◌∙◌, subst, refl}
use Rattle.std.proofs.lemmas.Bool.{false≢true}
use Rattle.modular_word.specs.Congruence.{Congruent}
use Rattle.modular_prim.specs.Differences.{CongruentBySign}
use Rattle.modular_prim.proofs.DifferenceSteps.{factor_minus, factor_plus, last_inverse, common_value_excludes_inverse}
use Rattle.modular_prim.proofs.inverse.inverse_below.Goals as goal
use Rattle.modular_prim.proofs.inverse.inverse_below.Goals.{then-pair, else-pair}

-- what isn't false after a negation
true_if_negation_false : (b : Bool) → not b ≡ false → b ≡ true
true_if_negation_false true e = refl
true_if_negation_false false e = absurd (false≢true (sym e))

pub returns-then-ne : goal.returns-then-ne
returns-then-ne g c y i =
    let other : g.T.RingWord.number c.last_pair-pair.result.above ≢ 1 =
    λ e. let one = (g.met.T.RingWord.equal c.last_pair-pair.result.above c.one-2.result).1 (e ∙ sym c.one-2.ensures) in
    false≢true (sym (ap not one) ∙ sym c.ne.ensures ∙ c.if-ne.true) in
    common_value_excludes_inverse _ _ _ _ _ _ _ y _ c.last_pair-pair.ensures.pair c.last_pair-pair.ensures.equal other i

pub returns : goal.returns
returns g c =
    let n = g.T.RingWord.number in
    let p = c.last_pair-pair.result in
    let one : n p.above ≡ 1 =
    (g.met.T.RingWord.equal p.above c.one-2.result).0 (true_if_negation_false _ (sym c.ne.ensures ∙ c.if-ne.false))
    ∙ c.one-2.ensures in
    let sign : CongruentBySign (n c.args.m) p.minus (n c.if-pair.factor) (n p.above_factor) = elim c.if-pair.branch [
      | then-pair w ↦
          factor_minus _ _ _ p.minus w.if-pair.true
          (ap (λ v. n v + n p.above_factor) w.factor-is ∙ w.minus-factor.ensures.value)
      | else-pair w ↦
          factor_plus _ _ _ p.minus w.if-pair.false (ap n w.factor-is)
    ] in
    let twos : c.if-pair.pair.twos ≡ p.twos = elim c.if-pair.branch [
      | then-pair w ↦ ap (λ o. o.twos) w.pair-is
      | else-pair w ↦ ap (λ o. o.twos) w.pair-is
    ] in
    let value =
    subst (λ k. Congruent (n c.args.m) (n c.without_twos.result * 2 ^ k)
    (n c.if-pair.factor)) twos c.without_twos.ensures.value in
    last_inverse _ _ _ _ _ _ _ _ _ p.minus c.requires.odd c.last_pair-pair.ensures.pair one sign
    c.without_twos.ensures.below value
