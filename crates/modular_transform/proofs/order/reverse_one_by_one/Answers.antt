use Rattle.std.proofs.Common.{◌+◌, ◌<◌, length, get_or, subst, sym, ◌∙◌, ap, arith}
use Rattle.std.proofs.lemmas.List.Edits.{swapped_from_swap}
use Rattle.std.specs.List.{swap}
use Rattle.modular_transform.specs.Orders.{bits_reversed}
use Rattle.modular_transform.proofs.BitReversal.{bits_reversed_below, bits_reversed_of_zero}
use Rattle.modular_transform.proofs.Reordering.{ReorderedSoFar, bits_exchange, exchanged_of_swapped, reordered_none}
use Rattle.modular_transform.proofs.Reordering.{reordered_swapped, reordered_passed, reordered_all}
use Rattle.modular_transform.proofs.order.reverse_one_by_one.Goals as goal
use Rattle.modular_transform.proofs.order.reverse_one_by_one.Goals.{then-place-other, else-place-other}

pub places-init : goal.places-init
places-init g c = search (arith, bits_reversed_of_zero, reordered_none)

pub swap-requires-clause-b_in_bounds : goal.swap-requires-clause-b_in_bounds
swap-requires-clause-b_in_bounds g c = search (arith, bits_reversed_below)

pub places-preserved : goal.places-preserved
places-preserved g c =
    let n = length c.args.entries.now in
    let i = c.places.place in
    let s = bits_reversed c.args.bits in
    let exchange = bits_exchange _ _ c.requires.whole in
    let is = c.next_reversed-other.ensures in
    let l : i < n = omega arith in
    record {
      other = is ∙ ap s (sym (omega arith));
      reordered = λ d. elim c.if-place-other.branch [
        | then-place-other w ↦
            let e = w.entries-is ∙ w.swap.ensures.after ∙ ap (λ j. swap c.places.entries i j) is in
            reordered_swapped _ _ _ _ _ _ exchange l (omega (arith, is))
            (exchanged_of_swapped _ _ _ _ _ (swapped_from_swap c.places.entries c.if-place-other.entries i (s i) d
            (omega arith) (omega arith) e)) (c.places.invariant.reordered d)
        | else-place-other w ↦
            subst (λ es. ReorderedSoFar n (i + 1) s (λ k. get_or c.args.entries.now k d) (λ k. get_or es k d))
            (sym w.entries-is) (reordered_passed _ _ _ _ _ exchange l (omega (arith, is))
            (c.places.invariant.reordered d))
      ];
    }

pub returns : goal.returns
returns g c = record {
  each = λ i d l. reordered_all _ _ _ _ _ (omega arith) (c.places.invariant.reordered d) _ l;
}
