use Rattle.std.proofs.Common.{◌*◌, ◌%◌}
use Rattle.modular_monty.proofs.MontgomerySteps.{form_below, double_made}
use Rattle.modular_monty.proofs.TwoPartSteps.{odd_checked, odd_answered}
use Rattle.modular_monty.proofs.montgomery.MontgomeryReducer.dbl.Goals as goal

pub dbl_below_stored-requires : goal.dbl_below_stored-requires
dbl_below_stored-requires g c =
    let r = c.args.self.now.ring in form_below r.odd (odd_checked r c.if-self-eq0.true c.requires)

pub returns-then-self-eq0 : goal.returns-then-self-eq0
returns-then-self-eq0 g c =
    let r = c.args.self.now.ring in
    let made = double_made r.odd (odd_checked r c.if-self-eq0.true c.requires) c.dbl_below_stored.ensures.value in
    odd_answered r c.if-self-eq0.true (λ v m. (2 * v (g.T.RingWord.number c.args.f)) % m) made.form
