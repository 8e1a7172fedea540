use Rattle.std.proofs.Common.{◌+◌, ◌*◌, ap, ◌∙◌}
use Rattle.modular_prim.proofs.DigitSteps.{division_gives_quotient, remainder_is}
use Rattle.modular_prim.proofs.euclid.step.Goals as goal

pub returns : goal.returns
returns g c =
    let times = ap (λ v. v * g.T.RingWord.number c.args.t)
    (division_gives_quotient c.division-quotient.ensures.division) in
    record {
      rest = remainder_is c.division-quotient.ensures.division;
      coefficient = c.plus.ensures ∙ ap (λ v. g.T.RingWord.number c.args.last_t + v) (c.times.ensures ∙ times);
    }
