-- The sizes of a level of the tree of remainders, and of the levels one and two stages below it and above it.
use Rattle.std.proofs.Common.{◌≡◌, ℕ, suc, zero, ◌+◌, ◌-◌, ◌*◌, ◌/◌, ◌^◌, ◌<◌, ◌≤◌, sym, ◌∙◌, ap, arith}
use Rattle.std.proofs.Math.Nat.{two-pow-succ, mul-le-mul_left, mul-le-mul_right}
use Rattle.std.proofs.lemmas.Nat.{pow_pos}

-- a list of count blocks of the last size, as 2 ^ above blocks with 2 ^ below of them in each
pub record IsTreeLevel (size blocks above below last count length : ℕ) : Type 0 where
  pub blocks_are : blocks ≡ 2 ^ above
  pub sized : size ≡ 2 ^ below * last
  pub counted : blocks * 2 ^ below ≡ count
  pub whole : count * last ≡ length
  pub some : 1 ≤ last

pub blocks_fill : {size blocks above below last count length : ℕ} → IsTreeLevel size blocks above below last count
    length
    → blocks * size ≡ length
blocks_fill {blocks = blocks} {below = below} {last = last} level =
    omega (arith, ap (λ v. blocks * v) level.sized, ap (λ v. v * last) level.counted, level.whole)

-- a level with a stage below it
pub record HasStage (size blocks above below last count length : ℕ) : Type 0 where
  pub next : IsTreeLevel (size / 2) (blocks * 2) (suc above) (below - 1) last count length
  pub twice : size ≡ size / 2 + size / 2
  pub whole : blocks * (size / 2 + size / 2) ≡ length
  pub some : 0 < size / 2
  pub few : blocks ≤ count / 2
  pub fits : blocks * 2 ≤ length

pub has_stage : {size blocks above below last count length : ℕ} → IsTreeLevel size blocks above below last count length
    → 0 < below → HasStage size blocks above below last count length
has_stage {below = zero} level more = absurd (omega arith)
has_stage {size = size} {blocks = blocks} {above = above} {below = suc below} {last = last} level more =
    let two = two-pow-succ below in
    let power = pow_pos below in
    let spread : 2 ^ suc below * last ≡ 2 * (2 ^ below * last) = ap (λ v. v * last) two ∙ omega arith in
    let counts : blocks * 2 ^ suc below ≡ blocks * 2 * 2 ^ below = ap (λ v. blocks * v) two ∙ omega arith in
    let least = mul-le-mul_right last power in
    let twice : size ≡ size / 2 + size / 2 = omega (arith, level.sized, spread) in
    let whole = ap (λ v. blocks * v) (sym twice) ∙ blocks_fill level in
    let some : 1 ≤ size / 2 = omega (arith, level.sized, spread, least, level.some) in
    grind (
      arith,
      whole,
      mul-le-mul_left blocks some,
      counts,
      spread,
      least,
      mul-le-mul_left blocks power,
      two-pow-succ
          above,
    )

-- a level with two stages below it
pub record HasTwoStages (size blocks above below last count length : ℕ) : Type 0 where
  pub next : IsTreeLevel (size / 4) (blocks * 4) (suc (suc above)) (below - 2) last count length
  pub four : size ≡ size / 4 + size / 4 + (size / 4 + size / 4)
  pub whole : blocks * (size / 4 + size / 4 + (size / 4 + size / 4)) ≡ length
  pub some : 0 < size / 4
  pub few : blocks * 2 ≤ count / 2
  pub fits : blocks * 4 ≤ length

pub has_two_stages : {size blocks above below last count length : ℕ}
    → IsTreeLevel size blocks above below last count length → 1 < below → HasTwoStages size blocks above below last
    count length
has_two_stages {size} {blocks} {below = below} level more =
    let one = has_stage level (omega arith) in
    let two = has_stage one.next (omega arith) in
    let four : size ≡ size / 4 + size / 4 + (size / 4 + size / 4) = omega (arith, one.twice, two.twice) in
    grind (arith, ap (λ v. blocks * v) (sym four), blocks_fill level)

-- the level above
level_above : {size blocks above below last count length : ℕ} → IsTreeLevel size blocks above below last count length
    → 0 < above → IsTreeLevel (size * 2) (blocks / 2) (above - 1) (suc below) last count length
level_above {above = zero} level more = absurd (omega arith)
level_above {size = size} {blocks = blocks} {above = suc above} {below = below} {last = last} level more =
    let even : blocks ≡ blocks / 2 * 2 = omega (arith, level.blocks_are, two-pow-succ above) in
    let two = two-pow-succ below in
    let half = ap (λ v. v * 2 ^ below) (sym even) in
    grind (arith, two-pow-succ above, half, ap (λ v. v * last) two, ap (λ v. blocks / 2 * v) two)

-- two levels above
two_above : {size blocks above below last count length : ℕ} → IsTreeLevel size blocks above below last count length
    → 1 < above → IsTreeLevel (size * 4) (blocks / 4) (above - 2) (suc (suc below)) last count length
two_above {size} {blocks} {above} level more =
    grind (arith, level_above (level_above level (omega arith)) (omega arith))

-- more than one block, by their sizes and by their number
above_some : {size blocks above below last count length : ℕ} → IsTreeLevel size blocks above below last count length
    → size < length → 0 < above
above_some {size = size} {above = zero} level less = grind arith
above_some {above = suc above} level less = omega arith

above_two : {size blocks above below last count length : ℕ} → IsTreeLevel size blocks above below last count length
    → 2 < blocks → 1 < above
above_two {above = zero} level more = grind arith
above_two {above = suc zero} level more = grind arith
above_two {above = suc (suc above)} level more = omega arith

-- a level with a stage above it
pub record CanJoin (size blocks above below last count length : ℕ) : Type 0 where
  pub next : IsTreeLevel (size * 2) (blocks / 2) (above - 1) (suc below) last count length
  pub even : blocks ≡ blocks / 2 * 2
  pub whole : blocks / 2 * (size + size) ≡ length
  pub few : blocks / 2 ≤ count / 2
  pub fits : size * 2 ≤ length

joined_once : {size blocks above below last count length : ℕ} → IsTreeLevel size blocks above below last count length
    → 0 < above → CanJoin size blocks above below last count length
joined_once {above = zero} tree some = absurd (omega arith)
joined_once {size = size} {blocks = blocks} {above = suc above} tree some =
    let next = level_above tree some in
    let some_blocks : 1 ≤ blocks / 2 = omega (arith, tree.blocks_are, two-pow-succ above, pow_pos above) in
    let few = (has_stage next (omega arith)).few in
    grind (arith, blocks_fill next, two-pow-succ above, mul-le-mul_right (size * 2) some_blocks, few)

pub can_join : {size blocks above below last count length : ℕ} → IsTreeLevel size blocks above below last count length
    → size < length → CanJoin size blocks above below last count length
can_join tree less = joined_once tree (above_some tree less)

-- a level with two stages above it
pub record CanJoinTwo (size blocks above below last count length : ℕ) : Type 0 where
  pub next : IsTreeLevel (size * 4) (blocks / 4) (above - 2) (suc (suc below)) last count length
  pub four : blocks ≡ blocks / 4 * 2 * 2
  pub whole : blocks / 4 * (size + size + (size + size)) ≡ length
  pub few : blocks / 4 * 2 ≤ count / 2
  pub fits : size * 4 ≤ length

pub can_join_two : {size blocks above below last count length : ℕ} → IsTreeLevel size blocks above below last count
    length
    → 2 < blocks → CanJoinTwo size blocks above below last count length
can_join_two {size} {blocks} {above} tree more =
    let beyond = above_two tree more in
    let one = joined_once tree (omega arith) in
    let two = joined_once one.next (omega arith) in
    let next = two_above tree beyond in
    grind (arith, blocks_fill next, (has_two_stages next (omega arith)).few)

-- the last level: a block of all entries
pub one_block : {size blocks above below last count length : ℕ} → IsTreeLevel size blocks above below last count length
    → length ≤ size → 0 < length → blocks ≡ 1
one_block {above = zero} tree full some = tree.blocks_are
one_block {size = size} {blocks = blocks} {above = suc above} tree full some =
    let more = mul-le-mul_right size (let k : 2 ≤ blocks =
    omega (arith, tree.blocks_are, two-pow-succ above, pow_pos above) in k) in
    absurd (omega (arith, more, blocks_fill tree, full, some))
