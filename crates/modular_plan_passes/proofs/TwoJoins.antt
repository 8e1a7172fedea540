-- Two stages of a join take the remainders of one level of the tree to those two levels above it, times 4.
use Rattle.std.proofs.Common.{◌≡◌, ℕ, suc, ◌+◌, ◌*◌, ◌/◌, ◌%◌, ◌^◌, ◌<◌, ◌≤◌, sym, ◌∙◌, ap, arith}
use Rattle.std.proofs.Math.Nat.{two-pow-succ, mul-le-mul_left}
use Rattle.std.specs.Int.{IsPowerOfTwo}
use Rattle.modular_word.specs.Congruence.{Congruent}
use Rattle.modular_plan_passes.specs.Joins.{IsFourJoin}
use Rattle.modular_plan_passes.specs.Plans.{AreTwiddles, AreRemainders}
use Rattle.modular_plan_passes.specs.Steps.{StageOfFours, IsLevel}
use Rattle.modular_plan_passes.proofs.Fours.{of_halves}
use Rattle.modular_plan_passes.proofs.JoinedPairs.{joined_pair_along}
use Rattle.modular_plan_passes.proofs.Joins.{joined_pair, level_lowest}
use Rattle.modular_plan_passes.proofs.Levels.{coefficient_at, moved_to}
use Rattle.modular_plan_passes.proofs.TreeLevels.{IsTreeLevel, CanJoinTwo, can_join_two}

pub level_two_above : {m g z entries : ℕ} (b count q s : ℕ) (x y after w : ℕ → ℕ) → (b + 1) * (count * 2) ≤ entries
    → AreTwiddles m g z entries w → IsLevel m g z b (count * 2 * 2) q (λ k. s * x k) y
    → StageOfFours (λ p. IsFourJoin m (w (b * count + p)) (w (2 * (b * count + p))) (w (2 * (b * count + p) + 1)))
    q count y after
    → IsLevel m g z b count (q + q + (q + q)) (λ k. (s + s + (s + s)) * x k) after
level_two_above {m} {g} {z} {entries} b count q s x y after w room twiddles before stage = record {
  each = λ p e lp le.
      let block : ℕ = b * count + p in
      let below : 2 * block + 1 < entries = omega arith in
      let at = λ (i r : ℕ). coefficient_at g z (count * 2 * 2) q (λ k. s * x k) r i in
      let P = λ (i : ℕ). Congruent m (after (p * (q + q + (q + q)) + i))
      (coefficient_at g z count (q + q + (q + q)) (λ k. (s + s + (s + s)) * x k) block i) in
      let all : (i : ℕ) → i < q → P i × P (q + i) × P (q + q + i) × P (q + q + (q + i)) = λ i li.
      let four = stage.fours p i lp li in
      let low = joined_pair (2 * block) (count * 2) q s i x twiddles (omega (arith, below))
      (moved_to y (at i) (omega arith) (omega arith) (before.each (4 * p) i (omega arith) li))
      (moved_to y (at i) (omega arith) (omega arith) (before.each (4 * p + 1) i (omega arith) li)) four.low in
      let high = joined_pair (2 * block + 1) (count * 2) q s i x twiddles below
      (moved_to y (at i) (omega arith) (omega arith) (before.each (4 * p + 2) i (omega arith) li))
      (moved_to y (at i) (omega arith) (omega arith) (before.each (4 * p + 3) i (omega arith) li)) four.high in
      let outer = joined_pair block count (q + q) (s + s) i x twiddles (omega (arith, below)) low.0 high.0 four.first in
      let inner = joined_pair block count (q + q) (s + s) (q + i) x twiddles (omega (arith, below)) low.1 high.1
      four.second in
      (outer.0, inner.0, outer.1, inner.1) in
      of_halves P (q + q) e le (λ f lf. of_halves P q f lf (λ i l. (all i l).0) (λ i l. (all i l).1))
      (λ f lf. of_halves (λ v. P (q + q + v)) q f lf (λ i l. (all i l).2) (λ i l. (all i l).3));
}

-- two stages of the loop: to a quarter of the blocks
pub level_joined_two : {m : ℕ} (g z : ℕ) {b size blocks above below last count length entries : ℕ} (x : ℕ → ℕ)
    {y after w : ℕ → ℕ} → CanJoinTwo size blocks above below last count length
    → (b + 1) * (count / 2) ≤ entries → AreTwiddles m g z entries w → IsLevel m g z b blocks size (λ k. 2 ^ below * x k)
    y
    → StageOfFours (λ p. IsFourJoin m (w (b * (blocks / 4) + p)) (w (2 * (b * (blocks / 4) + p)))
    (w (2 * (b * (blocks / 4) + p) + 1))) size (blocks / 4) y after
    → IsLevel m g z b (blocks / 4) (size * 4) (λ k. 2 ^ suc (suc below) * x k) after
level_joined_two g z {b} {size} {blocks} {below = below} x {y} {after} {w} can room twiddles before stage =
    let few = mul-le-mul_left (b + 1) can.few in
    let four : size + size + (size + size) ≡ size * 4 = omega arith in
    let power : 2 ^ below + 2 ^ below + (2 ^ below + 2 ^ below) ≡ 2 ^ suc (suc below) =
    omega (arith, two-pow-succ below, two-pow-succ (suc below)) in
    rw (four, power) at (level_two_above b (blocks / 4) size (2 ^ below) x y after w (omega (arith, few, room))
    twiddles (rw can.four at before) stage)

-- four entries that were reduced before
pub joined_four_along : {m a b c d a' b' c' d' e f g h : ℕ} (w u v : ℕ) → Congruent m a a' → Congruent m b b'
    → Congruent m c c' → Congruent m d d'
    → IsFourJoin m w u v a b c d e f g h → IsFourJoin m w u v a' b' c' d' e f g h
joined_four_along w u v first second third fourth four = search (arith, joined_pair_along)

-- the lowest level, of blocks of the last size
pub lowest_level : {last count length : ℕ} → 1 ≤ last → (power : IsPowerOfTwo count) → count * last ≡ length
    → IsTreeLevel last count power.0 0 last count length
lowest_level {last} {count} some power whole = omega arith

-- the first two stages where they make blocks of four entries
pub record FirstFours (b last length entries : ℕ) : Type 0 where
  pub above : ℕ
  pub can : CanJoinTwo 1 length above 0 1 length length
  pub count : length / last ≡ length
  pub room : (b + 1) * (length / 2) ≤ entries

pub first_fours : (b last length entries : ℕ) → last ≡ 1 → 0 < length / 4 → IsPowerOfTwo (length / last)
    → (b + 1) * (length / last / 2) ≤ entries → FirstFours b last length entries
first_fours b last length entries is some power room =
    let count : length / last ≡ length = ap (λ v. length / v) is ∙ omega arith in
    record {
      above = power.0;
      can = can_join_two (lowest_level (omega arith) (power.0, sym count ∙ power.1) (omega arith))
          (omega (arith, some));
      count = count;
      room = rw count at room;
    }

-- .. and what they make of the remainders
pub remainders_of_joined_fours : {m : ℕ} (g z : ℕ) {b last length entries : ℕ} {w x y after : ℕ → ℕ} → last ≡ 1
    → FirstFours b last length entries → AreTwiddles m g z entries w
    → AreRemainders m g z b (length / last) last x (λ i. y i % m)
    → StageOfFours (λ p. IsFourJoin m (w (b * (length / 4) + p)) (w (2 * (b * (length / 4) + p)))
    (w (2 * (b * (length / 4) + p) + 1))) 1 (length / 4) y after
    → AreRemainders m g z b (length / 4) 4 (λ k. 4 * x k) (λ i. after i % m)
remainders_of_joined_fours g z {b} {last} {length} {x = x} {y} is first twiddles before stage =
    let one : length / 1 ≡ length = omega arith in
    let level = level_joined_two g z x first.can first.room twiddles
    (level_lowest g z b length 1 x y (rw (is, one) at before)) stage in
    record { each = λ j i lj li. (level.each j i lj li).same }

-- what is congruent to the entries has their remainders
pub remainders_reduced : {m : ℕ} (g z b count last length : ℕ) (x y after : ℕ → ℕ) → count * last ≡ length
    → ((i : ℕ) → i < length → Congruent m (after i) (y i)) → AreRemainders m g z b count last x (λ i. y i % m)
    → AreRemainders m g z b count last x (λ i. after i % m)
remainders_reduced g z b count last length x y after whole reduced are = grind arith
