use Rattle.ring_codes.proofs.Names.{◌≡◌, ◌≤◌, ◌≢◌, ◌∙◌, ◌<◌, ◌%◌, ℕ, ap, arith, length, entry, entry_read, entry_past}
use Rattle.ring_codes.proofs.Names.{entry_kept, entry_written, held_entry, held_forms, forms_written, inl, inr, set}
use Rattle.ring_codes.proofs.Names.{cases_lt}
use Rattle.ring_codes.proofs.Roots.{coefficients_none, coefficients_more, roots_of_coefficients, coefficients_of_roots}
use Rattle.ring_codes.proofs.erasure.roots.expand_roots.Goals as goal

pub points-init : goal.points-init
points-init g c =
    let ring = g.R.Reducer in let m = ring.modulus c.args.r.now in let number = g.T.RingWord.number in
    let list = c.zeros.coefficients in let f = entry number ring.value m (set list 0 c.transform.result) in
    let all : length list ≤ c.zeros.i = omega arith in
    let first = entry_written number ring.value m list 0 c.transform.result (omega arith) ∙ c.transform.ensures.value
    ∙ ap (λ v. v % m) c.one.ensures in
    let none : (j : ℕ) → 0 < j → f j ≡ 0 =
    λ j l. let other : j ≢ 0 = omega arith in
    entry_kept number ring.value m list 0 j c.transform.result other
    ∙ elim (cases_lt j (length list)) [
      | inl b ↦ held_entry number ring.form ring.value m list (λ k. 0) c.zeros.i j c.zeros.invariant (omega arith) b
      | inr b ↦ entry_past number ring.value m list j b
    ] in (
      forms_written number ring.form ring.value m list 0 c.transform.result c.transform.ensures.checked
          (held_forms number ring.form ring.value m list (λ k. 0) c.zeros.i c.zeros.invariant all),
      coefficients_none m _ f first none,
      none,
    )

pub points-preserved : goal.points-preserved
points-preserved g c =
    let ring = g.R.Reducer in let m = ring.modulus c.args.r.now in let number = g.T.RingWord.number in
    let positive = (g.met.R.Reducer.canonical c.args.r.now).positive in
    let points = c.args.points.now in let i = c.points.i in let so_far = c.points.invariant in
    let point = entry_read number ring.value m points i _ c.points-test.true c.index-points-i.is in
    let step = c.multiply_by_root.ensures in (
      step.checked,
      coefficients_more m i _ _ _ positive so_far.1 so_far.2 (λ j l. rw point at (step.product j l)) step.behind,
      λ j l. step.behind j (omega arith) ∙ so_far.2 j (omega arith),
    )

pub returns-clause-roots : goal.returns-clause-roots
returns-clause-roots g c =
    let positive = (g.met.R.Reducer.canonical c.args.r.now).positive in
    let done : c.points.i ≡ length c.args.points.now = omega arith in
    rw done at (roots_of_coefficients _ _ _ _ positive c.points.invariant.1)

pub returns-clause-each : goal.returns-clause-each
returns-clause-each g c =
    let done : c.points.i ≡ length c.args.points.now = omega arith in
    rw done at (coefficients_of_roots _ _ _ _ c.points.invariant.1)
