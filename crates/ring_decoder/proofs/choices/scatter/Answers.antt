use Rattle.num_modular.specs.Callers.{◌≡◌, ◌<◌, ◌+◌, ◌%◌, ◌∙◌, ap, sym, arith, length}
use Rattle.num_modular.specs.Callers.{entry, entry_read, form_read, hold_more}
use Rattle.std.proofs.Math.Nat.{zero-mod}
use Rattle.std.proofs.lemmas.Bool.{false≢true}
use Rattle.ring_decoder.proofs.ChosenPlaces.{zeros-none, zero_increments_zero_count, nonzero_keeps_zero_count}
use Rattle.ring_decoder.proofs.ChosenPlaces.{zeros_before, chosen_zero, chosen_nonzero}
use Rattle.ring_decoder.specs.ErrorPatterns.{zeros, spread}
use Rattle.ring_decoder.proofs.choices.scatter.Goals as goal
use Rattle.ring_decoder.proofs.choices.scatter.Goals.{then-is_zero, else-is_zero}

pub values-init : goal.values-init
values-init g c = (sym (zeros-none _), omega arith, record { each = λ k d l. absurd (omega arith) })

pub bounds-chosen-next : goal.bounds-chosen-next
bounds-chosen-next g c =
    let ring = g.R.Reducer in let m = ring.modulus c.args.r.now in let number = g.T.RingWord.number in
    let values = c.args.values.now in let i = c.values.i in let z = entry number ring.value m values in
    let at = entry_read number ring.value m values i _ c.values-test.true c.index-values-i.is in
    let before = zeros_before i (length values) z c.values-test.true (sym at ∙ c.is_zero.ensures.0 c.if-is_zero.true) in
    omega (arith, c.values.invariant.0, before, c.requires.count)

pub offset_bounds-chosen-next : goal.offset_bounds-chosen-next
offset_bounds-chosen-next g c = omega (arith, bounds-chosen-next g c)

pub values-preserved : goal.values-preserved
values-preserved g c =
    let ring = g.R.Reducer in let m = ring.modulus c.args.r.now in let number = g.T.RingWord.number in
    let values = c.args.values.now in let i = c.values.i in let z = entry number ring.value m values in
    let chosen = c.args.chosen.now in let errors = c.values.errors in let next = c.values.next in
    let e = entry number ring.value m chosen in
    let at = entry_read number ring.value m values i _ c.values-test.true c.index-values-i.is in
    let so_far = c.values.invariant in let few = so_far.1 in let test = c.values-test.true in
    let within : i < length errors = omega (arith, test, c.values.auto.errors, c.requires.room) in
    elim c.if-is_zero.branch [
      | then-is_zero w ↦
          let here = sym at ∙ c.is_zero.ensures.0 w.if-is_zero.true in
          let is = w.next-is in let x = w.index-chosen-next.result in
          let before = zeros_before i (length values) z test here in
          let there : next < length chosen = omega (arith, so_far.0, before, c.requires.count) in (
            is ∙ ap (λ k. k + 1) so_far.0 ∙ sym (zero_increments_zero_count i z here),
            omega (arith, few, is),
            rw w.errors-is (hold_more number ring.form ring.value m errors i x (spread z e) within so_far.2
                (form_read number ring.form ring.value m chosen next x c.requires.chosen there w.index-chosen-next.is)
                (entry_read number ring.value m chosen next x there w.index-chosen-next.is ∙ ap e so_far.0
                ∙ sym (chosen_zero (z i) (e (zeros i z)) 0 here))),
          )
      | else-is_zero w ↦
          let is = w.next-is in
          let other : z i ≡ 0 → ⊥ = λ e. false≢true (sym w.if-is_zero.false ∙ c.is_zero.ensures.1 (at ∙ e)) in (
            is ∙ so_far.0 ∙ sym (nonzero_keeps_zero_count i z other),
            omega (arith, few, is),
            rw w.errors-is (hold_more number ring.form ring.value m errors i c.transform-zero.result (spread z e) within
                so_far.2 c.transform-zero.ensures.checked
                (c.transform-zero.ensures.value ∙ ap (λ k. k % m) c.zero.ensures ∙ zero-mod m
                ∙ sym (chosen_nonzero (z i) (e (zeros i z)) 0 other))),
          )
    ]
