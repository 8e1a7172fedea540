use Rattle.std.proofs.Common.{◌≡◌, ◌+◌, ◌-◌, ◌*◌, ◌^◌, get_or}
use Rattle.modular_transform.specs.Orders.{bits_reversed}
use Rattle.modular_transform.proofs.Reordering.{ReorderedSoFar}
use Rattle.modular_transform.proofs.Tiles.{place_of, tiles_reversed}
use Rattle.modular_transform.proofs.order.reverse_by_tiles.Given as goal

-- the tiles before this one are done
abbrev pub invariant-tiles : goal.invariant-tiles
invariant-tiles g l = record {
  last : l.other ≡ bits_reversed (l.bits - 6) (l.tile - 1);
  reordered : (d : g.row.T.Denot) → ReorderedSoFar (2 ^ (l.bits - 6) * 64) (l.tile * 64)
      (tiles_reversed (l.bits - 6))
      (λ t. get_or l.fn.entries (place_of l.step t) d) (λ t. get_or l.entries (place_of l.step t) d);
}

-- and of this tile the rows before this one
abbrev pub invariant-rows : goal.invariant-rows
invariant-rows g l = record {
  last : l.to_column ≡ bits_reversed 3 (l.row - 1);
  reordered : (d : g.row.T.Denot) → ReorderedSoFar (2 ^ (l.bits - 6) * 64) (l.tile * 64 + l.row * 8)
      (tiles_reversed (l.bits - 6))
      (λ t. get_or l.fn.entries (place_of l.step t) d) (λ t. get_or l.entries (place_of l.step t) d);
}

-- and of this row the columns before this one
abbrev pub invariant-columns : goal.invariant-columns
invariant-columns g l = record {
  last : l.to_row ≡ bits_reversed 3 (l.column - 1);
  reordered : (d : g.row.T.Denot) → ReorderedSoFar (2 ^ (l.bits - 6) * 64) (l.tile * 64 + l.row * 8 + l.column)
      (tiles_reversed (l.bits - 6))
      (λ t. get_or l.fn.entries (place_of l.step t) d) (λ t. get_or l.entries (place_of l.step t) d);
}
