use Rattle.std.proofs.Common.{◌<◌, All, subst, sym, ap, ◌∙◌}
use Rattle.modular_bench.proofs.plans.planned.Goals as goal

pub carried_out-requires-clause-entries_xs : goal.carried_out-requires-clause-entries_xs
carried_out-requires-clause-entries_xs g c =
    let number = g.T.RingWord.number in
    subst (λ m. All (λ x. number x < m) c.args.xs.now)
    (sym (ap (λ v. number v.modulus) c.in-Some.ensures.0 ∙ c.new-modulus.ensures)) c.requires.entries_xs

pub carried_out-requires-clause-entries_ys : goal.carried_out-requires-clause-entries_ys
carried_out-requires-clause-entries_ys g c =
    let number = g.T.RingWord.number in
    subst (λ m. All (λ x. number x < m) c.args.ys.now)
    (sym (ap (λ v. number v.modulus) c.in-Some.ensures.0 ∙ c.new-modulus.ensures)) c.requires.entries_ys
