use Rattle.std.proofs.Common.{◌+◌, ap, ◌∙◌}
use Rattle.modular_monty.proofs.TwoPartSteps.{value_made, turns_fit, low_word, odd_checked, odd_value_answered}
use Rattle.modular_monty.proofs.montgomery.MontgomeryReducer.residue.Goals as goal

pub residue-requires : goal.residue-requires
residue-requires g c = odd_checked c.args.self.now.ring c.if-self-eq0.true c.requires

pub returns-then-self-eq0 : goal.returns-then-self-eq0
returns-then-self-eq0 g c = odd_value_answered c.args.self.now.ring c.if-self-eq0.true c.residue.ensures.form

pub plus-requires : goal.plus-requires
plus-requires g c =
    turns_fit c.args.self.now.ring _ c.residue-value.ensures.form.below c.low_bits-steps.ensures.value
    c.times.ensures

pub returns : goal.returns
returns g c =
    let n = g.T.RingWord.number in
    let r = c.args.self.now.ring in
    value_made r _ c.high.ensures.value c.residue-value.ensures.form c.wrapping_sub-behind.ensures.value
    (c.low_bits-steps.ensures.value ∙ low_word r _ c.wrapping_mul.ensures.value)
    (c.plus.ensures ∙ ap (λ p. n c.residue-value.result + p) c.times.ensures)
