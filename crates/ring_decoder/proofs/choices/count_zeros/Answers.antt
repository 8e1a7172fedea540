use Rattle.num_modular.specs.Callers.{◌+◌, ◌∙◌, ap, sym, arith, entry, entry_read}
use Rattle.std.proofs.lemmas.Bool.{false≢true}
use Rattle.ring_decoder.proofs.ChosenPlaces.{zeros-none, zero_increments_zero_count, nonzero_keeps_zero_count}
use Rattle.ring_decoder.proofs.choices.count_zeros.Goals as goal
use Rattle.ring_decoder.proofs.choices.count_zeros.Goals.{then-is_zero, else-is_zero}

pub values-init : goal.values-init
values-init g c = (sym (zeros-none _), omega arith)

pub values-preserved : goal.values-preserved
values-preserved g c =
    let ring = g.R.Reducer in let m = ring.modulus c.args.r.now in let number = g.T.RingWord.number in
    let values = c.args.values.now in let i = c.values.i in let z = entry number ring.value m values in
    let at = entry_read number ring.value m values i _ c.values-test.true c.index-values-i.is in
    let so_far = c.values.invariant in let few = so_far.1 in
    elim c.if-is_zero.branch [
      | then-is_zero w ↦
          let is = w.count-is in (
            is ∙ ap (λ k. k + 1) so_far.0
                ∙ sym (zero_increments_zero_count i z (sym at ∙ c.is_zero.ensures.0 w.if-is_zero.true)),
            omega (arith, few, is),
          )
      | else-is_zero w ↦
          let is = w.count-is in (
            is ∙ so_far.0
                ∙ sym (nonzero_keeps_zero_count i z (λ e. false≢true (sym w.if-is_zero.false
                ∙ c.is_zero.ensures.1 (at ∙ e)))),
            omega (arith, few, is),
          )
    ]
