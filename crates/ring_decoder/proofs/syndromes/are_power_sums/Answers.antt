use Rattle.std.proofs.Common.{below_more}
use Rattle.std.proofs.lemmas.Bool.{false≢true}
use Rattle.num_modular.specs.Callers.{◌<◌, ◌∙◌, ap, sym, arith, length, mod-eq_of_lt}
use Rattle.num_modular.specs.Callers.{entry, entry_read, form_read}
use Rattle.num_modular.specs.Callers.{values_below}
use Rattle.ring_codes.proofs.Symbols.{same_forms, told_same, told_other}
use Rattle.ring_decoder.proofs.SyndromeSums.{terms_next, sum_of_terms}
use Rattle.ring_decoder.proofs.syndromes.are_power_sums.Goals as goal

pub returns-then-ne-clause-sums : goal.returns-then-ne-clause-sums
returns-then-ne-clause-sums g c =
    let ring = g.R.Reducer in let m = ring.modulus c.args.r.now in let number = g.T.RingWord.number in
    let x = entry number ring.value m c.args.points.now in let w = entry number ring.value m c.args.terms.now in
    let n = length c.args.points.now in let sums = c.args.sums.now in let h = c.sums.h in
    let below : h < length sums = omega arith in
    let symbol = entry_read number ring.value m sums h _ below c.index-sums-h.is in
    let is = form_read number ring.form ring.value m sums h _ c.requires.sums below c.index-sums-h.is in (
      λ t. absurd (false≢true t),
      λ are. absurd (told_other _ _ _ c.ne.ensures c.if-ne.true
          (g.met.T.RingWord.equal c.next_sum-sum.result c.index-sums-h.result)
          (same_forms ring.form ring.value m _ _ c.next_sum-sum.ensures.checked is
          (sum_of_terms m n h _ x w _ c.sums.invariant.1 c.next_sum-sum.ensures.value
          ∙ sym (are.sum h below).same
          ∙ mod-eq_of_lt (values_below number ring.form ring.value m sums h c.requires.sums below) ∙ sym symbol))),
    )

pub sums-preserved : goal.sums-preserved
sums-preserved g c =
    let ring = g.R.Reducer in let m = ring.modulus c.args.r.now in let number = g.T.RingWord.number in
    let x = entry number ring.value m c.args.points.now in let w = entry number ring.value m c.args.terms.now in
    let n = length c.args.points.now in let sums = c.args.sums.now in let h = c.sums.h in
    let so_far = c.sums.invariant in let below : h < length sums = omega arith in
    let symbol = entry_read number ring.value m sums h _ below c.index-sums-h.is in
    let same = told_same _ _ _ c.ne.ensures c.if-ne.false
    (g.met.T.RingWord.equal c.next_sum-sum.result c.index-sums-h.result) in (
      c.next_sum-sum.ensures.terms,
      λ i l. terms_next m h _ _ (w i) (x i) (c.next_sum-sum.ensures.products i l) (so_far.1 i l),
      below_more _ _ so_far.2
          (sym symbol ∙ sym (ap (ring.value m) same)
          ∙ sum_of_terms m n h _ x w _ so_far.1 c.next_sum-sum.ensures.value),
      omega (arith, c.saturating_add.ensures, so_far.3),
      grind (arith, c.saturating_add.ensures, so_far.4),
    )
