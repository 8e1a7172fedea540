use Rattle.std.proofs.Common.{◌≡◌, ◌*◌, ◌/◌, ◌%◌, length, ◌∙◌, ap, arith}
use Rattle.modular_plan_transforms.proofs.LastJoins.{scale_taken_out}
use Rattle.modular_plan_transforms.proofs.join.join_scaled_by.Goals as goal

pub returns-clause-joined : goal.returns-clause-joined
returns-clause-joined g c r z x twiddles are i l =
    let size = c.join_first-size.result in
    let last = c.join_passes-size.result in
    let first = c.join_first-size.ensures in
    let second = c.join_passes-size.ensures in
    let same : length c.join_first-size.new.xs ≡ length c.args.xs.now = omega (arith, c.join_first-size.auto.xs) in
    let again : length c.join_passes-size.new.xs ≡ length c.join_first-size.new.xs =
    omega (arith, c.join_passes-size.auto.xs) in
    let lower = second.joined r z (λ k. first.scale * x k) twiddles (rw same (first.joined r z x twiddles are)) in
    let times = ap (λ v. v / last * (second.scale * (first.scale * x i))) again
    ∙ scale_taken_out _ second.scale _ (first.scale * x i) second.times
    ∙ ap (λ v. v / size * (first.scale * x i)) same ∙ scale_taken_out _ first.scale _ (x i) first.times in
    c.join_last.ensures.joined r z (λ k. second.scale * (first.scale * x k)) twiddles (rw again lower) i
    (omega (arith, l, same, again))
    ∙ ap (λ v. (v * g.T.RingWord.number c.args.w.now.value) % g.M.JoinSteps.modulus c.args.m.now) times
