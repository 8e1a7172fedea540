use Rattle.std.proofs.Common.{◌≡◌, ℕ, ◌+◌, ◌-◌, length, ◌∙◌, arith, refl}
use Rattle.modular_word.proofs.InverseLemmas.{inverse_from_mod}
use Rattle.modular_reduced.specs.EntryLaws.{entry_at, forms_written, done_before}
use Rattle.modular_ring.specs.ProductLaws.{no_inverse, inverse_before, inverse_last}
use Rattle.modular_ring.proofs.list_inverses.invert_each.Goals as goal

pub returns-in_default-clause-each : goal.returns-in_default-clause-each
returns-in_default-clause-each g c =
    let all = c.forward.invariant.0 in let none = c.in_default.ensures.value in
    (λ t. cc, λ each. absurd (no_inverse _ _ _ _ all.same all.checked.below none (λ i l. each i (omega arith))))

pub backward-preserved : goal.backward-preserved
backward-preserved g c =
    let ring = g.R.Reducer in let m = ring.modulus c.args.r.now in let number = g.T.RingWord.number in
    let n = length c.args.forms.now in let forms = c.backward.forms in let so_far = c.backward.invariant in
    let k = c.backward.k in let i : ℕ = length forms - 1 - k in let left : n - (k + 1) ≡ i = omega arith in
    let read = entry_at number ring.value m forms i _ (omega arith) ∙ so_far.3.kept i (omega arith) in
    let next : n - k ≡ i + 1 = omega arith in let before = (c.forward.invariant.1.each i _ (omega arith)).same in
    let here = inverse_last m i _ _ _ _ _ so_far.1 next c.mul.ensures.value before in
    rw left (
      c.mul-before.ensures.checked,
      inverse_before m i _ _ _ _ _ so_far.1 next c.mul-before.ensures.value read,
      forms_written number ring.form ring.value m forms i c.mul.result c.mul.ensures.checked so_far.2,
      done_before number ring.value m forms i _ _ c.mul.result _ _ (omega arith) next so_far.3 here,
    )

pub returns-clause-each : goal.returns-clause-each
returns-clause-each g c = (λ t i l. (_, c.backward.invariant.3.done i (omega arith) l), λ each. refl)

pub backward-init : goal.backward-init
backward-init g c = search (arith, inverse_from_mod)
