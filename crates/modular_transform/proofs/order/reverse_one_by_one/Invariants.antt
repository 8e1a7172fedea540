use Rattle.std.proofs.Common.{◌≡◌, ◌-◌, length, get_or}
use Rattle.modular_transform.specs.Orders.{bits_reversed}
use Rattle.modular_transform.proofs.Reordering.{ReorderedSoFar}
use Rattle.modular_transform.proofs.order.reverse_one_by_one.Given as goal

-- the places before this one are done, and `other` is the reversed place of the last of them
abbrev pub invariant-places : goal.invariant-places
invariant-places g l = record {
  other : l.other ≡ bits_reversed l.bits (l.place - 1);
  reordered : (d : g.row.T.Denot) → ReorderedSoFar (length l.fn.entries) l.place (bits_reversed l.bits)
      (λ i. get_or l.fn.entries i d) (λ i. get_or l.entries i d);
}
