use Rattle.ring_codes.proofs.Names.{◌≡◌, ◌-◌, ◌∙◌, ℕ, length, ap, arith, entry, entry_read, mod_of_eq, polynomial-none}
use Rattle.ring_codes.proofs.NewtonForms.{form-none, expanded_more, expanded_all}
use Rattle.ring_codes.proofs.erasure.newton.expand.Goals as goal

pub points-init : goal.points-init
points-init g c = grind (arith, mod_of_eq, polynomial-none, form-none)

pub points-preserved : goal.points-preserved
points-preserved g c =
    let ring = g.R.Reducer in let m = ring.modulus c.args.r.now in let number = g.T.RingWord.number in
    let positive = (g.met.R.Reducer.canonical c.args.r.now).positive in
    let points = c.args.points.now in let n = length c.args.form.now in let k = c.points.k in
    let so_far = c.points.invariant in
    let e = entry number ring.value m c.points.form in
    let f = entry number ring.value m c.subtract_multiples.new.values in
    let x = entry number ring.value m points in
    let i : ℕ = n - 1 - k in let there : length c.points.form - 1 - k ≡ i = omega arith in
    let point = entry_read number ring.value m points _ _ (omega arith) c.index-points-from.is ∙ ap x there in
    let done = c.subtract_multiples.ensures in (
      done.checked,
      expanded_more m n i _ _ k _ (entry number ring.value m c.args.form.now) e f x positive (omega arith) (omega arith)
          (omega arith) (omega arith) so_far.1 (so_far.2 i (omega arith))
          (λ l b d. rw point at (done.done l (omega arith) (omega arith))) (λ l b. done.last l (omega arith)),
      λ i l. done.before i (omega arith) ∙ so_far.2 i (omega arith),
    )

pub returns-clause-same : goal.returns-clause-same
returns-clause-same g c = expanded_all _ _ _ _ _ _ (omega arith) c.points.invariant.1
