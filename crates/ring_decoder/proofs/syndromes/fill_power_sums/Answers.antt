use Rattle.std.proofs.Common.{◌^◌}
use Rattle.num_modular.specs.Callers.{◌*◌, ◌%◌, arith, length, entry, hold_more}
use Rattle.num_modular.specs.Sums.{sum_below}
use Rattle.ring_decoder.proofs.SyndromeSums.{terms_next, sum_of_terms}
use Rattle.ring_decoder.proofs.syndromes.fill_power_sums.Goals as goal

pub sums-preserved : goal.sums-preserved
sums-preserved g c =
    let ring = g.R.Reducer in let m = ring.modulus c.args.r.now in let number = g.T.RingWord.number in
    let x = entry number ring.value m c.args.points.now in let w = entry number ring.value m c.args.terms.now in
    let n = length c.args.points.now in let h = c.sums.h in let so_far = c.sums.invariant in (
      c.next_sum.ensures.terms,
      λ i l. terms_next m h _ _ (w i) (x i) (c.next_sum.ensures.products i l) (so_far.1 i l),
      hold_more number ring.form ring.value m c.sums.sums h c.next_sum.result
          (λ h. sum_below n (λ i. w i * x i ^ h) % m) (omega arith) so_far.2 c.next_sum.ensures.checked
          (sum_of_terms m n h _ x w _ so_far.1 c.next_sum.ensures.value),
    )
