-- The columns and the products that the loops over the strips count.
use Rattle.std.proofs.Common.{◌≡◌, ℕ, ◌+◌, ◌-◌, ◌*◌, ◌^◌, ◌<◌, ◌≤◌, min, ap, arith}
use mir.Syntax.{w128}
use mir.Val.{Fits}

-- the columns of a strip are columns of the block
pub width_fits : {column width columns : ℕ} → width ≡ min 64 (columns - column) → column ≤ columns
    → column + width ≤ columns
width_fits least within = omega (arith, least, within)

-- the products of the fours of a block, four for each column
pub fours_done : (start block : ℕ) {n k width : ℕ} → n ≡ start + block * (4 * width) + 4 * k → k ≡ width
    → n ≡ start + (block + 1) * (4 * width)
fours_done start block is all = omega (arith, is, all)

-- those of all strips up to this one
pub strip_counted : (column width : ℕ) {n block blocks : ℕ}
    → n ≡ column * (4 * blocks + 3) + 3 * width + block * (4 * width) → block ≡ blocks
    → n ≡ (column + width) * (4 * blocks + 3)
strip_counted column width is all = let rows = ap (λ b. b * (4 * width)) all in omega (arith, is, rows)

-- the number of products fits
pub fours_count_fits : (column : ℕ) {products width step block blocks n k : ℕ}
    → products ≡ column * (4 * blocks + 3) + 3 * width + block * (4 * width) + 4 * k → k < width → block < blocks
    → column + width ≤ step → blocks * (4 * step) ≡ n → n < 2 ^ 64 → Fits w128 (products + 4)
fours_count_fits column {products} {width} {step} {block} {blocks} {n} count l lb within whole few = grind arith
