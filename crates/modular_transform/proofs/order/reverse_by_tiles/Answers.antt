use Rattle.std.proofs.Common.{◌+◌, ◌-◌, ◌*◌, ◌/◌, ◌^◌, ◌<◌, length, get_or, subst, sym, ◌∙◌, ap, arith}
use Rattle.std.proofs.lemmas.List.Edits.{swapped_from_swap}
use Rattle.modular_transform.specs.Orders.{bits_reversed}
use Rattle.modular_transform.proofs.BitReversal.{bits_reversed_of_zero}
use Rattle.modular_transform.proofs.Reordering.{ReorderedSoFar, reordered_at}
use Rattle.modular_transform.proofs.Tiles.{place_of, tiles_reversed, tiles_of_whole, Spot, tile_place_is_spot}
use Rattle.modular_transform.proofs.Tiles.{spot_swapped, spot_passed, tile_passed, places_reversed}
use Rattle.modular_transform.proofs.order.reverse_by_tiles.Goals as goal
use Rattle.modular_transform.proofs.order.reverse_by_tiles.Goals.{After-next_reversed-to_row, then-tile-other-2}
use Rattle.modular_transform.proofs.order.reverse_by_tiles.Goals.{then-tile-other+else-rows-test, else-tile-other}
use Rattle.modular_transform.proofs.order.reverse_by_tiles.Goals.{then-tile-other-2-via-then-tile-other-2}
use Rattle.modular_transform.proofs.order.reverse_by_tiles.Goals.{then-tile-other-2-via-else-tile-other-2+then-row-column}
use Rattle.modular_transform.proofs.order.reverse_by_tiles.Goals.{else-tile-other-2+else-row-column}

-- the places that change with one another at this row and column
spot_at : (g : _) (c : After-next_reversed-to_row g) → Spot (c.args.bits - 6) (length c.args.entries.now / 8)
    c.tiles.tile
    c.next_reversed-other.result c.rows.row c.columns.column c.next_reversed-to_row.result
    c.next_reversed-to_column.result
spot_at g c =
    let w = tiles_of_whole _ _ c.requires.tiles c.requires.whole in
    tile_place_is_spot _ _ _ _ _ _ _ _ (omega (arith, w)) (omega (arith, w)) (omega arith)
    (omega arith) c.next_reversed-other.ensures c.next_reversed-to_row.ensures c.next_reversed-to_column.ensures

pub rows-init : goal.rows-init
rows-init g c = record {
  last = sym (bits_reversed_of_zero 3);
  reordered = λ d. reordered_at _ _ _ _ _ _ (omega arith) (c.tiles.invariant.reordered d);
}

pub columns-init : goal.columns-init
columns-init g c = record {
  last = sym (bits_reversed_of_zero 3);
  reordered = λ d. reordered_at _ _ _ _ _ _ (omega arith) (c.rows.invariant.reordered d);
}

pub overflow_mul-to_row : goal.overflow_mul-to_row
overflow_mul-to_row g c = omega (arith, spot_at g (goal.at.overflow_mul-to_row g c).After-next_reversed-to_row)

pub overflow_add-to_row : goal.overflow_add-to_row
overflow_add-to_row g c = omega (arith, spot_at g (goal.at.overflow_add-to_row g c).After-next_reversed-to_row)

pub overflow_mul-to_row-then-tile-other-2 : goal.overflow_mul-to_row-then-tile-other-2
overflow_mul-to_row-then-tile-other-2 g c =
    omega (arith, spot_at g (goal.at.overflow_mul-to_row-then-tile-other-2 g c).After-next_reversed-to_row)

pub overflow_mul-other : goal.overflow_mul-other
overflow_mul-other g c = omega (arith, spot_at g (goal.at.overflow_mul-other g c).After-next_reversed-to_row)

pub overflow_add-to_row-then-tile-other-2 : goal.overflow_add-to_row-then-tile-other-2
overflow_add-to_row-then-tile-other-2 g c =
    omega (arith, spot_at g (goal.at.overflow_add-to_row-then-tile-other-2 g c).After-next_reversed-to_row)

pub overflow_add-to_row-then-tile-other-2-2 : goal.overflow_add-to_row-then-tile-other-2-2
overflow_add-to_row-then-tile-other-2-2 g c =
    omega (arith, spot_at g (goal.at.overflow_add-to_row-then-tile-other-2-2 g c).After-next_reversed-to_row)

pub swap-requires-clause-b_in_bounds : goal.swap-requires-clause-b_in_bounds
swap-requires-clause-b_in_bounds g c =
    omega (arith, spot_at g (goal.at.swap-requires-clause-b_in_bounds g c).After-next_reversed-to_row)

pub columns-preserved : goal.columns-preserved
columns-preserved g c =
    let bits = c.args.bits in
    let tile = c.tiles.tile in
    let other = c.next_reversed-other.result in
    let row = c.rows.row in
    let column = c.columns.column in
    let to_row = c.next_reversed-to_row.result in
    let to_column = c.next_reversed-to_column.result in
    let step = length c.args.entries.now / 8 in
    let here = spot_at g (goal.at.columns-preserved g c).After-next_reversed-to_row in
    record {
      last = c.next_reversed-to_row.ensures ∙ ap (bits_reversed 3) (sym (omega arith));
      reordered = λ d. elim c.if-tile-other-2.branch [
        | then-tile-other-2 w ↦
            let order : tile * 64 + row * 8 + column < other * 64 + to_row * 8 + to_column =
            elim w.then-tile-other-2.branch [
              | then-tile-other-2-via-then-tile-other-2 v ↦ omega arith
              | then-tile-other-2-via-else-tile-other-2+then-row-column v ↦ omega arith
            ] in
            spot_swapped (bits - 6) step tile other row column to_row to_column (λ k. get_or c.args.entries.now k d)
            (λ k. get_or c.columns.entries k d) (λ k. get_or c.if-tile-other-2.entries k d) here order
            (swapped_from_swap c.columns.entries c.if-tile-other-2.entries (row * step + tile * 8 + column)
            (to_row * step + other * 8 + to_column) d (omega (arith, here.first_below)) (omega arith) (w.entries-is
            ∙ w.swap.ensures.after)) (c.columns.invariant.reordered d)
        | else-tile-other-2+else-row-column w ↦
            subst (λ es. ReorderedSoFar (2 ^ (bits - 6) * 64) (tile * 64 + row * 8 + (column + 1))
            (tiles_reversed (bits - 6)) (λ t. get_or c.args.entries.now (place_of step t) d)
            (λ t. get_or es (place_of step t) d)) (sym w.entries-is)
            (spot_passed (bits - 6) step tile other row column to_row to_column (λ k. get_or c.args.entries.now k d)
            (λ k. get_or c.columns.entries k d) here (omega arith) (c.columns.invariant.reordered d))
      ];
    }

pub rows-preserved : goal.rows-preserved
rows-preserved g c =
    record {
      last = c.next_reversed-to_column.ensures ∙ ap (bits_reversed 3) (sym (omega arith));
      reordered = λ d. reordered_at _ _ _ _ _ _ (omega arith) (c.columns.invariant.reordered d);
    }

pub tiles-preserved : goal.tiles-preserved
tiles-preserved g c =
    let bits = c.args.bits in
    let tile = c.tiles.tile in
    let step = length c.args.entries.now / 8 in
    record {
      last = c.next_reversed-other.ensures ∙ ap (bits_reversed (bits - 6)) (sym (omega arith));
      reordered = λ d. elim c.if-tile-other.branch [
        | then-tile-other+else-rows-test w ↦
            subst (λ es. ReorderedSoFar (2 ^ (bits - 6) * 64) ((tile + 1) * 64) (tiles_reversed (bits - 6))
            (λ t. get_or c.args.entries.now (place_of step t) d) (λ t. get_or es (place_of step t) d))
            (sym w.entries-is) (reordered_at _ (tile * 64 + w.rows.row * 8) ((tile + 1) * 64) _ _ _ (omega arith)
            (w.rows.invariant.reordered d))
        | else-tile-other w ↦
            subst (λ es. ReorderedSoFar (2 ^ (bits - 6) * 64) ((tile + 1) * 64) (tiles_reversed (bits - 6))
            (λ t. get_or c.args.entries.now (place_of step t) d) (λ t. get_or es (place_of step t) d))
            (sym w.entries-is) (tile_passed (bits - 6) step tile c.next_reversed-other.result
            (λ k. get_or c.args.entries.now k d) (λ k. get_or c.tiles.entries k d) c.next_reversed-other.ensures
            (omega arith) (c.tiles.invariant.reordered d))
      ];
    }

pub returns : goal.returns
returns g c =
    let n = length c.args.entries.now in
    let w = tiles_of_whole c.args.bits n c.requires.tiles c.requires.whole in
    record {
      each = λ i d l. places_reversed c.args.bits (c.args.bits - 6) (n / 8) (c.tiles.tile * 64)
          (λ k. get_or c.args.entries.now k d) (λ k. get_or c.tiles.entries k d) (omega arith) (omega (arith, w))
          (omega (arith, w))
          (c.tiles.invariant.reordered d) i (omega (arith, w));
    }
