use Rattle.std.proofs.Common.{◌≡◌, ◌+◌, ◌-◌, ◌<◌, length, get_or, subst, sym, ◌∙◌, ap, arith}
use Rattle.std.proofs.lemmas.List.Edits.{swapped_from_swap}
use Rattle.std.specs.List.{swap}
use Rattle.modular_transform.specs.Orders.{mirrored}
use Rattle.modular_transform.proofs.Reordering.{ReorderedSoFar, mirror_exchange, mirrored_other, reordered_swapped}
use Rattle.modular_transform.proofs.Reordering.{exchanged_of_swapped, reordered_passed, reordered_all}
use Rattle.modular_transform.proofs.order.mirror.Goals as goal
use Rattle.modular_transform.proofs.order.mirror.Goals.{then-place-other, else-place-other}

pub places-preserved : goal.places-preserved
places-preserved g c d =
    let n = length c.args.entries.now in
    let i = c.places.place in
    let s = mirrored n in
    let l : i < n = omega arith in
    let is : n - i ≡ s i = sym (mirrored_other _ _ (omega arith) l) in
    elim c.if-place-other.branch [
      | then-place-other w ↦
          let e = w.entries-is ∙ w.swap.ensures.after ∙ ap (λ j. swap c.places.entries i j) is in
          reordered_swapped _ _ _ _ _ _ (mirror_exchange _) l (omega (arith, is))
          (exchanged_of_swapped _ _ _ _ _ (swapped_from_swap c.places.entries c.if-place-other.entries i (s i) d
          (omega arith) (omega (arith, is)) e)) (c.places.invariant d)
      | else-place-other w ↦
          subst (λ es. ReorderedSoFar n (i + 1) s (λ k. get_or c.args.entries.now k d) (λ k. get_or es k d))
          (sym w.entries-is) (reordered_passed _ _ _ _ _ (mirror_exchange _) l (omega (arith, is))
          (c.places.invariant d))
    ]

pub returns : goal.returns
returns g c = record {
  each = λ i d l. reordered_all _ _ _ _ _ (omega arith) (c.places.invariant d) _ l;
}
