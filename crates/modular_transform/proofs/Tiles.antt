-- Places numbered tile by tile: number (tile * 8 + row) * 8 + column is place row * step + tile * 8 + column.
use Rattle.std.proofs.Common.{◌≡◌, ℕ, ◌+◌, ◌-◌, ◌*◌, ◌%◌, ◌/◌, ◌^◌, ◌<◌, ◌≤◌, sym, ◌∙◌, ap, refl, arith}
use Rattle.std.proofs.Math.Nat.{div-lt_iff_lt-mul, mod-lt}
use Rattle.std.proofs.lemmas.Nat.{div-mul-add, mod-mul-add, div-add-mod', pow-add}
use Rattle.modular_transform.specs.Orders.{bits_reversed}
use Rattle.modular_transform.proofs.BitReversal.{bits_reversed_below, bits_reversed_twice, bits_reversed_of_parts}
use Rattle.std.proofs.lemmas.List.Edits.{Swapped}
use Rattle.modular_transform.proofs.Reordering.{IsExchange, ExchangedBelow, ReorderedSoFar, reordered_at}
use Rattle.modular_transform.proofs.Reordering.{reordered_swapped, reordered_passed, reordered_passed_by, reordered_all}

-- the place with a number
abbrev pub place_of : ℕ → ℕ → ℕ
place_of step t = t / 8 % 8 * step + t / 64 * 8 + t % 8

-- and the number of a place
abbrev pub number_of : ℕ → ℕ → ℕ
number_of step k = (k % step) / 8 * 64 + k / step * 8 + (k % step) % 8

-- the number of the place with the reversed bits, where the tiles have b bits
abbrev pub tiles_reversed : ℕ → ℕ → ℕ
tiles_reversed b t = bits_reversed b (t / 64) * 64 + bits_reversed 3 (t % 8) * 8 + bits_reversed 3 (t / 8 % 8)

pub place_of_parts : (step tile row column : ℕ) → row < 8 → column < 8
    → place_of step (tile * 64 + row * 8 + column) ≡ row * step + tile * 8 + column
place_of_parts step tile row column r c = grind arith

pub reversed_parts : (b tile row column : ℕ) → row < 8 → column < 8
    → tiles_reversed b (tile * 64 + row * 8 + column)
    ≡ bits_reversed b tile * 64 + bits_reversed 3 column * 8 + bits_reversed 3 row
reversed_parts b tile row column r c = grind arith

pub reversed_below_8 : (k : ℕ) → bits_reversed 3 k < 8
reversed_below_8 k = let b = bits_reversed_below 3 k in let e : 2 ^ 3 ≡ 8 = refl in omega (arith, b, e)

pub tiles_exchange : (b n : ℕ) → n ≡ 2 ^ b * 64 → IsExchange n (tiles_reversed b)
tiles_exchange b n is_n = omega (arith, bits_reversed_below, reversed_below_8, reversed_parts, bits_reversed_twice)

-- the bits of a place are reversed as those of its tile, its row and its column
pub place_reversed : (bits b step t : ℕ) → bits ≡ b + 6 → step ≡ 2 ^ b * 8 → t < 2 ^ b * 64
    → bits_reversed bits (place_of step t) ≡ place_of step (tiles_reversed b t)
place_reversed bits b step t is_bits is_step l =
    let e : 2 ^ 3 ≡ 8 = refl in
    let tile = t / 64 in
    let row = t / 8 % 8 in
    let column = t % 8 in
    let high = tile + 2 ^ b * row in
    let place : place_of step t ≡ column + 2 ^ 3 * high = omega (arith, ap (λ v. row * v) is_step) in
    let number : bits ≡ 3 + (b + 3) = omega arith in
    let one = bits_reversed_of_parts 3 (b + 3) column high (omega (arith, e)) in
    let third = ap (λ v. bits_reversed 3 column * v) (pow-add 2 b 3 ∙ ap (λ v. 2 ^ b * v) e ∙ sym is_step) in
    let to = place_of_parts step (bits_reversed b tile) (bits_reversed 3 column) (bits_reversed 3 row)
    (reversed_below_8 column) (reversed_below_8 row) in
    let all = ap (λ v. bits_reversed v (place_of step t)) number ∙ ap (bits_reversed (3 + (b + 3))) place ∙ one in
    omega (arith, all, bits_reversed_of_parts b 3 tile row (omega arith), third, to)

-- the number of the place of a number
number_again : (b step t : ℕ) → step ≡ 2 ^ b * 8 → t < 2 ^ b * 64 → number_of step (place_of step t) ≡ t
number_again b step t is_step l =
    grind (
      arith,
      div-mul-add (t / 8 % 8) step (t / 64 * 8 + t % 8) (omega (arith, is_step)),
      mod-mul-add (t / 8 % 8) step (t / 64 * 8 + t % 8) (omega (arith, is_step)),
    )

place_injective : (b step j k : ℕ) → step ≡ 2 ^ b * 8 → j < 2 ^ b * 64 → k < 2 ^ b * 64
    → place_of step j ≡ place_of step k → j ≡ k
place_injective b step j k is_step lj lk e =
    sym (number_again b step j is_step lj) ∙ ap (number_of step) e ∙ number_again b step k is_step lk

-- two places exchanged are two numbers exchanged
pub exchanged_numbers : {T : Type 0} (b step i j : ℕ) (x y : ℕ → T) → step ≡ 2 ^ b * 8 → i < 2 ^ b * 64 → j < 2 ^ b * 64
    → Swapped x y (place_of step i) (place_of step j)
    → ExchangedBelow (2 ^ b * 64) i j (λ t. x (place_of step t)) (λ t. y (place_of step t))
exchanged_numbers b step i j x y is_step li lj swapped = grind (arith, place_injective)

-- once all numbers are done, all places are
pub places_reversed : {T : Type 0} (bits b step i : ℕ) (old new : ℕ → T) → bits ≡ b + 6 → step ≡ 2 ^ b * 8
    → 2 ^ b * 64 ≤ i
    → ReorderedSoFar (2 ^ b * 64) i (tiles_reversed b) (λ t. old (place_of step t)) (λ t. new (place_of step t))
    → (k : ℕ) → k < 2 ^ b * 64 → new k ≡ old (bits_reversed bits k)
places_reversed bits b step i old new is_bits is_step all so_far k l =
    let some : 0 < step = omega arith in
    let row : k / step < 8 = (div-lt_iff_lt-mul {k = step} {x = k} {y = 8} some).1 (omega (arith, is_step)) in
    let below : (number_of step k) < 2 ^ b * 64 = omega (arith, is_step, row, mod-lt k some) in
    let place : place_of step (number_of step k) ≡ k =
    place_of_parts _ _ _ _ row (omega arith) ∙ omega (arith, div-add-mod' k step) in
    ap new (sym place) ∙ reordered_all (2 ^ b * 64) i (tiles_reversed b) _ _ all so_far (number_of step k) below
    ∙ ap old (sym (place_reversed bits b step (number_of step k) is_bits is_step below) ∙ ap (bits_reversed bits) place)

pub tiles_of_whole : (bits n : ℕ) → 6 ≤ bits → n ≡ 2 ^ bits → n ≡ 2 ^ (bits - 6) * 64
tiles_of_whole bits n some whole = grind (arith, pow-add)

-- the places that change with one another at a row and a column of a tile
pub record Spot (b step tile other row column to_row to_column : ℕ) : Type 0 where
  pub step_is : step ≡ 2 ^ b * 8
  pub tile_below : tile < 2 ^ b
  pub other_below : other < 2 ^ b
  pub to_row_below : to_row < 8
  pub to_column_below : to_column < 8
  pub number_below : tile * 64 + row * 8 + column < 2 ^ b * 64
  pub number : tiles_reversed b (tile * 64 + row * 8 + column) ≡ other * 64 + to_row * 8 + to_column
  pub first : place_of step (tile * 64 + row * 8 + column) ≡ row * step + tile * 8 + column
  pub first_below : row * step + tile * 8 + column < step * 8
  pub second : place_of step (tiles_reversed b (tile * 64 + row * 8 + column)) ≡ to_row * step + other * 8 + to_column
  pub second_below : to_row * step + other * 8 + to_column < step * 8

pub tile_place_is_spot : (b step tile other row column to_row to_column : ℕ) → step ≡ 2 ^ b * 8 → tile < 2 ^ b → row < 8
    → column < 8
    → other ≡ bits_reversed b tile → to_row ≡ bits_reversed 3 column → to_column ≡ bits_reversed 3 row
    → Spot b step tile other row column to_row to_column
tile_place_is_spot b step tile other row column to_row to_column is_step lt lr lc is_other is_row is_column =
    grind (arith, bits_reversed_below, reversed_below_8, reversed_parts, place_of_parts)

-- the two places are swapped
pub spot_swapped : {T : Type 0} (b step tile other row column to_row to_column : ℕ) (old new newer : ℕ → T)
    → Spot b step tile other row column to_row to_column
    → tile * 64 + row * 8 + column < other * 64 + to_row * 8 + to_column
    → Swapped new newer (row * step + tile * 8 + column) (to_row * step + other * 8 + to_column)
    → ReorderedSoFar (2 ^ b * 64) (tile * 64 + row * 8 + column) (tiles_reversed b) (λ t. old (place_of step t))
    (λ t. new (place_of step t))
    → ReorderedSoFar (2 ^ b * 64) (tile * 64 + row * 8 + (column + 1)) (tiles_reversed b) (λ t. old (place_of step t))
    (λ t. newer (place_of step t))
spot_swapped b step tile other row column to_row to_column old new newer here order swapped so_far =
    let s = tiles_reversed b in
    let t = tile * 64 + row * 8 + column in
    let exchange = tiles_exchange b (2 ^ b * 64) refl in
    let at : Swapped new newer (place_of step t) (place_of step (s t)) =
    grind (arith, here.first, here.second) in
    reordered_at _ _ _ _ _ _ (omega arith) (reordered_swapped _ _ _ _ _ _ exchange here.number_below
    (omega (arith, order, here.number)) (exchanged_numbers _ _ _ _ _ _ here.step_is here.number_below
    (exchange.within t here.number_below) at) so_far)

-- they were swapped before, or are the same place
pub spot_passed : {T : Type 0} (b step tile other row column to_row to_column : ℕ) (old new : ℕ → T)
    → Spot b step tile other row column to_row to_column
    → other * 64 + to_row * 8 + to_column ≤ tile * 64 + row * 8 + column
    → ReorderedSoFar (2 ^ b * 64) (tile * 64 + row * 8 + column) (tiles_reversed b) (λ t. old (place_of step t))
    (λ t. new (place_of step t))
    → ReorderedSoFar (2 ^ b * 64) (tile * 64 + row * 8 + (column + 1)) (tiles_reversed b) (λ t. old (place_of step t))
    (λ t. new (place_of step t))
spot_passed b step tile other row column to_row to_column old new here order so_far =
    reordered_at _ _ _ _ _ _ (omega arith) (reordered_passed _ _ _ _ _ (tiles_exchange _ _ refl) here.number_below
    (omega (arith, order, here.number)) so_far)

-- so were all places of a tile
pub tile_passed : {T : Type 0} (b step tile other : ℕ) (old new : ℕ → T) → other ≡ bits_reversed b tile → other < tile
    → ReorderedSoFar (2 ^ b * 64) (tile * 64) (tiles_reversed b) (λ t. old (place_of step t))
    (λ t. new (place_of step t))
    → ReorderedSoFar (2 ^ b * 64) ((tile + 1) * 64) (tiles_reversed b) (λ t. old (place_of step t))
    (λ t. new (place_of step t))
tile_passed b step tile other old new is_other order so_far =
    reordered_at _ _ _ _ _ _ (omega arith) (reordered_passed_by _ _ 64 _ _ _ (tiles_exchange _ _ refl)
    (λ k l from to.
    let at : k / 64 ≡ tile = omega arith in
    omega (arith, ap (bits_reversed b) at, reversed_below_8 (k % 8), reversed_below_8 (k / 8 % 8), is_other)) so_far)
