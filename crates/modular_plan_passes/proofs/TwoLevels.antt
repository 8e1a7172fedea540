-- Two stages take the remainders of one level of the tree to those two levels below.
use Rattle.std.proofs.Common.{◌≡◌, ℕ, suc, zero, ◌+◌, ◌*◌, ◌/◌, ◌^◌, ◌<◌, ◌≤◌, sym, ◌∙◌, ap, arith}
use Rattle.std.proofs.Math.Nat.{mul-le-mul_left, mod-eq_of_lt}
use Rattle.std.specs.Int.{IsPowerOfTwo}
use Rattle.modular_word.specs.Congruence.{Congruent}
use Rattle.modular_plan_passes.specs.Plans.{AreTwiddles, AreRemainders}
use Rattle.modular_plan_passes.specs.Steps.{IsFourSplit, StageOfFours, IsLevel}
use Rattle.modular_plan_passes.proofs.TreeLevels.{HasTwoStages}
use Rattle.modular_plan_passes.proofs.Levels.{by_halves, coefficient_at, level_pair, moved_to, remainders_of}

pub level_fours : {m g z entries : ℕ} (b count q : ℕ) (x y after w : ℕ → ℕ) → (b + 1) * (count * 2) ≤ entries
    → AreTwiddles m g z entries w → IsLevel m g z b count (q + q + (q + q)) x y
    → StageOfFours (λ p. IsFourSplit m (w (b * count + p)) (w (2 * (b * count + p))) (w (2 * (b * count + p) + 1)))
    q count y after
    → IsLevel m g z b (count * 2 * 2) q x after
level_fours {m} {g} {z} {entries} b count q x y after w room twiddles before stage = record {
  each = λ j i l li.
      let p : ℕ = j / 2 / 2 in
      let lp : p < count = omega arith in
      let block : ℕ = b * count + p in
      let below : 2 * block + 1 < entries = omega arith in
      let four = stage.fours p i lp li in
      let outer = level_pair block count (q + q) i x twiddles (omega (arith, below)) (before.each p i lp (omega arith))
      (before.each p (q + q + i) lp (omega arith)) four.first in
      let inner = level_pair block count (q + q) (q + i) x twiddles (omega (arith, below))
      (before.each p (q + i) lp (omega arith))
      (before.each p (q + q + (q + i)) lp (omega arith)) four.second in
      let low = level_pair (2 * block) (count * 2) q i x twiddles (omega (arith, below)) outer.0 inner.0 four.low in
      let high = level_pair (2 * block + 1) (count * 2) q i x twiddles below outer.1 inner.1 four.high in
      let at = λ (r : ℕ). coefficient_at g z (count * 2 * 2) q x r i in
      let P = λ (j : ℕ). Congruent m (after (j * q + i)) (at (b * (count * 2 * 2) + j)) in
      by_halves P j
      (by_halves (λ k. P (2 * k)) (j / 2) (moved_to after at (omega arith) (omega arith) low.0)
      (moved_to after at (omega arith) (omega arith) high.0))
      (by_halves (λ k. P (2 * k + 1)) (j / 2) (moved_to after at (omega arith) (omega arith) low.1)
      (moved_to after at (omega arith) (omega arith) high.1));
}

-- two stages of the loop
pub level_after_two : {m : ℕ} (g z : ℕ) {b size blocks above below last count length entries : ℕ} {x y after w : ℕ → ℕ}
    → HasTwoStages size blocks above below last count length → (b + 1) * (count / 2) ≤ entries
    → AreTwiddles m g z entries w
    → IsLevel m g z b blocks size x y
    → StageOfFours (λ p. IsFourSplit m (w (b * blocks + p)) (w (2 * (b * blocks + p))) (w (2 * (b * blocks + p) + 1)))
    (size / 4) blocks y after
    → IsLevel m g z b (blocks * 4) (size / 4) x after
level_after_two {m} g z {b} {size} {blocks} {x = x} {y} {after} {w} has room twiddles before stage =
    let few = mul-le-mul_left (b + 1) has.few in
    let four : blocks * 2 * 2 ≡ blocks * 4 = omega arith in
    rw four at (level_fours b blocks (size / 4) x y after w (omega (arith, few, room)) twiddles (rw has.four at before)
    stage)

-- the entries of the table for two stages
pub two_rooms : (blocks count b entries : ℕ) → blocks * 2 ≤ count / 2 → (b + 1) * (count / 2) ≤ entries
    → 2 * (b * blocks + blocks) ≤ entries
two_rooms blocks count b entries few room = grind (arith, mul-le-mul_left (b + 1) few)

-- a list of whole fours, for the stages above its last two and for these
pub record WholeFours (n b entries : ℕ) : Type 0 where
  pub power : IsPowerOfTwo (n / 4)
  pub whole : n / 4 * 4 ≡ n
  pub room : (b + 1) * (n / 4 / 2) ≤ entries
  pub last_room : (b + 1) * (n / 4 * 2) ≤ entries
  pub places : 2 * (b * (n / 4) + n / 4) ≤ entries

fours_of_power : (e n b entries : ℕ) → n ≡ 2 ^ e → 4 ≤ n → (b + 1) * (n / 2) ≤ entries → WholeFours n b entries
fours_of_power zero n b entries is large room = grind arith
fours_of_power (suc zero) n b entries is large room = grind arith
fours_of_power (suc (suc e)) n b entries is large room =
    let twice : n / 2 ≡ n / 4 * 2 = omega arith in
    let last : (b + 1) * (n / 4 * 2) ≤ entries = rw twice at room in
    let less = mul-le-mul_left (b + 1) (let l : n / 4 / 2 ≤ n / 4 * 2 = omega arith in l) in
    record {
      power = (e, omega arith);
      whole = omega arith;
      room = omega (arith, less, last);
      last_room = last;
      places = omega (arith, last);
    }

pub whole_fours : (n last b entries : ℕ) → last ≡ 1 → 4 ≤ n → IsPowerOfTwo (n / last)
    → (b + 1) * (n / last / 2) ≤ entries → WholeFours n b entries
whole_fours n last b entries is large power room =
    let all : n / last ≡ n = ap (λ v. n / v) is ∙ omega arith in
    fours_of_power power.0 n b entries (sym all ∙ power.1) large (rw all at room)

-- the last two stages leave the remainders
pub remainders_of_split_fours : {m : ℕ} (g z b n last entries : ℕ) (w x y after : ℕ → ℕ) → last ≡ 1
    → WholeFours n b entries
    → AreTwiddles m g z entries w → IsLevel m g z b (n / 4) 4 x y
    → StageOfFours (λ p. IsFourSplit m (w (b * (n / 4) + p)) (w (2 * (b * (n / 4) + p)))
    (w (2 * (b * (n / 4) + p) + 1))) 1 (n / 4) y after
    → ((i : ℕ) → i < n → after i < m) → AreRemainders m g z b (n / last) last x after
remainders_of_split_fours {m} g z b n last entries w x y after is fours twiddles before stage below =
    let level = level_fours b (n / 4) 1 x y after w fours.last_room twiddles before stage in
    let all : n / last ≡ n = ap (λ v. n / v) is ∙ omega arith in
    let whole : n / 4 * 2 * 2 ≡ n = omega (arith, fours.whole) in
    let are = remainders_of g z b n 1 n x after after (omega arith) (rw whole at level)
    (λ i l. sym (mod-eq_of_lt (below i l))) in
    grind (arith, are, all)
