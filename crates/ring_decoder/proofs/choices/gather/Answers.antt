use Rattle.num_modular.specs.Callers.{◌≡◌, ◌<◌, ◌+◌, ◌∙◌, ap, sym, inl, inr, arith, length}
use Rattle.num_modular.specs.Callers.{entry, entry_read, form_read, entry_written, entry_kept}
use Rattle.std.proofs.Common.{slice_set, get_or-set_same, get_or-set_other}
use Rattle.std.proofs.lemmas.Bool.{cases_eq, false≢true}
use Rattle.ring_decoder.proofs.ChosenPlaces.{zeros-none, zero_increments_zero_count, nonzero_keeps_zero_count}
use Rattle.ring_decoder.proofs.ChosenPlaces.{zeros_before, chosen_more, chosen_kept}
use Rattle.ring_decoder.proofs.choices.gather.Goals as goal
use Rattle.ring_decoder.proofs.choices.gather.Goals.{then-is_zero, else-is_zero}

pub values-init : goal.values-init
values-init g c = (
  sym (zeros-none _),
  omega arith,
  λ k d l. absurd (omega arith),
  record {
    at =
        λ i l. absurd (omega arith);
  },
)

pub values-preserved : goal.values-preserved
values-preserved g c =
    let ring = g.R.Reducer in let m = ring.modulus c.args.r.now in let number = g.T.RingWord.number in
    let values = c.args.values.now in let i = c.values.i in let z = entry number ring.value m values in
    let numbers = c.args.numbers.now in let chosen = c.values.chosen in let next = c.values.next in
    let at = entry_read number ring.value m values i _ c.values-test.true c.index-values-i.is in
    let so_far = c.values.invariant in let few = so_far.1 in
    elim c.if-is_zero.branch [
      | then-is_zero w ↦
          let here = sym at ∙ c.is_zero.ensures.0 w.if-is_zero.true in
          let is = w.next-is in let x = w.index-numbers-i.result in let test = c.values-test.true in
          let there : i < length numbers = omega (arith, c.requires.pairs, test) in
          let before = zeros_before i (length values) z test here in let count = so_far.0 in
          let within : next < length chosen = omega (arith, count, before, c.values.auto.chosen, c.requires.room) in
          let new = w.chosen-is ∙ w.put.ensures in
          let form = form_read number ring.form ring.value m numbers i x c.requires.numbers there w.index-numbers-i.is
          in (
            is ∙ ap (λ k. k + 1) count ∙ sym (zero_increments_zero_count i z here),
            omega (arith, few, is),
            λ k d l. rw new (elim (cases_eq k next) [
              | inl e ↦ rw (e, get_or-set_same chosen next x d within) form
              | inr o ↦ rw (get_or-set_other chosen next k x d o) (so_far.2 k d (omega (arith, l, is, o)))
            ]),
            rw new (chosen_more i z (entry number ring.value m numbers) (entry number ring.value m chosen)
                (entry number ring.value m (slice_set chosen next x)) so_far.3
                (ap (λ j. entry number ring.value m (slice_set chosen next x) j) (sym count)
                ∙ entry_written number ring.value m chosen next x within
                ∙ entry_read number ring.value m numbers i x there w.index-numbers-i.is)
                (λ k o. entry_kept number ring.value m chosen next k x (λ e. o (e ∙ count)))),
          )
      | else-is_zero w ↦
          let is = w.next-is in
          let other : z i ≡ 0 → ⊥ = λ e. false≢true (sym w.if-is_zero.false ∙ c.is_zero.ensures.1 (at ∙ e)) in (
            is ∙ so_far.0 ∙ sym (nonzero_keeps_zero_count i z other),
            omega (arith, few, is),
            λ k d l. rw w.chosen-is (so_far.2 k d (omega (arith, l, is))),
            rw w.chosen-is (chosen_kept i z _ (entry number ring.value m chosen) so_far.3 other),
          )
    ]
