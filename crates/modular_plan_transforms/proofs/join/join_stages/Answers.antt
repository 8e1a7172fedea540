use Rattle.std.proofs.Common.{◌≡◌, ◌*◌, ◌/◌, length, ◌∙◌, ap, arith}
use Rattle.modular_word.proofs.Congruence.{mod_of_eq, mod_trans}
use Rattle.modular_plan_transforms.proofs.LastJoins.{scale_taken_out}
use Rattle.modular_plan_transforms.proofs.join.join_stages.Goals as goal

pub returns-clause-joined : goal.returns-clause-joined
returns-clause-joined g c r z x twiddles are i l =
    let first = c.join_first-size.ensures in
    let same : length c.join_first-size.new.xs ≡ length c.args.xs.now = omega (arith, c.join_first-size.auto.xs) in
    let times = ap (λ v. v / c.join_first-size.result * (first.scale * x i)) same
    ∙ scale_taken_out _ first.scale _ (x i) first.times in
    mod_trans (c.join_blocks.ensures.joined r z (λ k. first.scale * x k) twiddles
    (rw same (first.joined r z x twiddles are)) i (omega (arith, l, same))) (mod_of_eq times)
