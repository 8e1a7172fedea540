-- One more factor.
use Rattle.std.proofs.Common.{◌*◌, ◌%◌, ◌^◌, sym, ap, ◌∙◌, add-one}
use Rattle.std.proofs.Math.Nat.{pow-suc}
use Rattle.std.proofs.lemmas.Nat.{mul-mod_first}
use Rattle.modular_word.proofs.plain.power_of.Goals as goal

pub loop-preserved : goal.loop-preserved
loop-preserved c =
    let a = c.args.base in
    let k = c.loop.counter in
    ap (λ n. n * a % c.args.m) c.loop.invariant ∙ mul-mod_first (a ^ k) _ _
    ∙ ap (λ n. n % c.args.m) (sym (pow-suc _ k)) ∙ ap (λ n. a ^ n % c.args.m) (sym (add-one k))
