-- A stage of a join takes the remainders of one level of the tree to those of the level above it, times 2.
use Rattle.std.proofs.Common.{◌≡◌, ℕ, suc, ◌+◌, ◌-◌, ◌*◌, ◌/◌, ◌%◌, ◌^◌, ◌<◌, ◌≤◌, sym, ◌∙◌, ap, arith}
use Rattle.std.proofs.Math.Nat.{two-pow-succ, pow-zero, mul-le-mul_left}
use Rattle.modular_word.specs.Congruence.{Congruent}
use Rattle.modular_word.specs.Sums.{sum_below}
use Rattle.modular_word.proofs.Congruence.{mod_of_eq, mod_refl, mod_sym, mod_trans, mod_add}
use Rattle.modular_word.proofs.Congruence.{mod_mul, mod_add_cancel, mod_mul_cancel}
use Rattle.modular_word.proofs.Sums.{sum_below-zero, sum_below-suc, sum_below-same, sum_below-mul}
use Rattle.modular_plan_passes.specs.Joins.{IsPairJoin}
use Rattle.modular_plan_passes.specs.Plans.{constant, AreTwiddles, AreRemainders}
use Rattle.modular_plan_passes.specs.Steps.{StageDone, IsLevel}
use Rattle.modular_plan_passes.proofs.Fours.{of_halves}
use Rattle.modular_plan_passes.proofs.TreeLevels.{IsTreeLevel, CanJoin, one_block}
use Rattle.modular_plan_passes.proofs.Levels.{coefficient_at, constants_of_halves, level_sum, moved_to}

-- a sum of terms that are scaled twice as much
scaled_sum : (n s size i c : ℕ) (x : ℕ → ℕ)
    → sum_below n (λ k. ((s + s) * x (k * size + i)) * c ^ k) ≡ 2 * sum_below n (λ k. (s * x (k * size + i)) * c ^ k)
scaled_sum n s size i c x =
    sum_below-same n (λ k. ((s + s) * x (k * size + i)) * c ^ k)
    (λ k. 2 * ((s * x (k * size + i)) * c ^ k)) (λ k l. omega arith)
    ∙ sum_below-mul n 2 (λ k. (s * x (k * size + i)) * c ^ k)

-- the sum of a pair of the level below, and the quotient of its difference
joined_low : {m : ℕ} (a d even odd w y z low : ℕ) → Congruent m y (a + even * d) → Congruent m z (a + odd * d)
    → Congruent m even w → Congruent m (odd + w) 0 → Congruent m low (y + z) → Congruent m low (2 * a)
joined_low {m} a d even odd w y z low is_y is_z is opposite summed =
    mod_trans summed (mod_trans (mod_add (mod_trans is_y (mod_add (mod_refl a) (mod_mul is (mod_refl d)))) is_z)
    (mod_trans (mod_of_eq (let e : (a + w * d) + (a + odd * d) ≡ 2 * a + (odd + w) * d = omega arith in e))
    (mod_trans (mod_add (mod_refl (2 * a)) (mod_mul opposite (mod_refl d))) (mod_of_eq (omega arith)))))

joined_high : {m : ℕ} (a d even odd w j y z high : ℕ) → Congruent m y (a + even * d) → Congruent m z (a + odd * d)
    → Congruent m even w → Congruent m (odd + w) 0 → Congruent m (w * j) 1 → Congruent m (high * w + z) y
    → Congruent m high (2 * d)
joined_high {m} a d even odd w j y z high is_y is_z is opposite unit subtracted =
    let both : Congruent m (high * w + (a + odd * d)) (a + w * d) =
    mod_trans (mod_add (mod_refl (high * w)) (mod_sym is_z)) (mod_trans subtracted (mod_trans is_y (mod_add (mod_refl a)
    (mod_mul is (mod_refl d))))) in
    let none : Congruent m (high * w + a) (high * w + a + (odd + w) * d) =
    mod_trans (mod_of_eq (omega arith)) (mod_add (mod_refl (high * w + a)) (mod_sym (mod_mul opposite (mod_refl d)))) in
    mod_mul_cancel w j unit (mod_add_cancel a (mod_trans none (mod_trans
    (mod_of_eq (let e : high * w + a + (odd + w) * d ≡ high * w + (a + odd * d) + w * d = omega arith in e))
    (mod_trans (mod_add both (mod_refl (w * d))) (mod_of_eq (omega arith))))))

-- a pair of the level above
pub joined_pair : {m g z entries y v low high : ℕ} {w : ℕ → ℕ} (q count half s i : ℕ) (x : ℕ → ℕ)
    → AreTwiddles m g z entries w
    → q < entries → Congruent m y (coefficient_at g z (count * 2) half (λ k. s * x k) (2 * q) i)
    → Congruent m v (coefficient_at g z (count * 2) half (λ k. s * x k) (2 * q + 1) i) → IsPairJoin m (w q) y v low high
    → Congruent m low (coefficient_at g z count (half + half) (λ k. (s + s) * x k) q i)
    × Congruent m high (coefficient_at g z count (half + half) (λ k. (s + s) * x k) q (half + i))
joined_pair {m} {g} {z} {entries} {w = w} q count half s i x twiddles below is_y is_v pair =
    let c = constant g z q in
    let even = constant g z (2 * q) in
    let odd = constant g z (2 * q + 1) in
    let are = constants_of_halves g z entries q w twiddles below in
    let f = λ (k : ℕ). s * x k in
    let a = coefficient_at g z count (half + half) f q i in
    let d = coefficient_at g z count (half + half) f q (half + i) in
    let first = mod_trans is_y (level_sum count half i even c f are.root) in
    let second = mod_trans is_v (level_sum count half i odd c f are.odd_root) in (
      mod_trans (joined_low a d even odd (w q) _ _ _ first second are.even_is are.opposite pair.summed)
          (mod_of_eq (sym (scaled_sum count s (half + half) i c x))),
      mod_trans (joined_high a d even odd (w q) are.inverse _ _ _ first second are.even_is are.opposite are.unit
          pair.subtracted) (mod_of_eq (sym (scaled_sum count s (half + half) (half + i) c x))),
    )

pub level_above_of : {m g z entries : ℕ} (b count half s : ℕ) (x y after w : ℕ → ℕ) → (b + 1) * count ≤ entries
    → AreTwiddles m g z entries w → IsLevel m g z b (count * 2) half (λ k. s * x k) y
    → StageDone (λ p. IsPairJoin m (w (b * count + p))) half count y after
    → IsLevel m g z b count (half + half) (λ k. (s + s) * x k) after
level_above_of {m} {g} {z} b count half s x y after w room twiddles before stage = record {
  each = λ p e lp le.
      let q : ℕ = b * count + p in
      let at = λ (i r : ℕ). coefficient_at g z (count * 2) half (λ k. s * x k) r i in
      let pair = λ (i : ℕ) (li : i < half). joined_pair q count half s i x twiddles (omega arith)
      (moved_to y (at i) (omega arith) (omega arith) (before.each (2 * p) i (omega arith) li))
      (moved_to y (at i) (omega arith) (omega arith) (before.each (2 * p + 1) i (omega arith) li))
      (stage.pairs p i lp li) in
      of_halves (λ i. Congruent m (after (p * (half + half) + i))
      (coefficient_at g z count (half + half) (λ k. (s + s) * x k) q i)) half e le (λ i l. (pair i l).0)
      (λ i l. (pair i l).1);
}

-- before the first stage
pub level_lowest : {m : ℕ} (g z b count last : ℕ) (x y : ℕ → ℕ) → AreRemainders m g z b count last x (λ i. y i % m)
    → IsLevel m g z b count last (λ k. 2 ^ 0 * x k) y
level_lowest {m} g z b count last x y are = grind arith

-- one stage of the loop: to half as many blocks
pub level_joined : {m : ℕ} (g z : ℕ) {b size blocks above below last count length entries : ℕ} (x : ℕ → ℕ)
    {y after w : ℕ → ℕ} → CanJoin size blocks above below last count length
    → (b + 1) * (count / 2) ≤ entries → AreTwiddles m g z entries w → IsLevel m g z b blocks size (λ k. 2 ^ below * x k)
    y
    → StageDone (λ p. IsPairJoin m (w (b * (blocks / 2) + p))) size (blocks / 2) y after
    → IsLevel m g z b (blocks / 2) (size * 2) (λ k. 2 ^ suc below * x k) after
level_joined g z {b} {size} {blocks} {below = below} x {y} {after} {w} can room twiddles before stage =
    let few = mul-le-mul_left (b + 1) can.few in
    let twice : size + size ≡ size * 2 = omega arith in
    rw (twice, ← two-pow-succ below) at (level_above_of b (blocks / 2) size (2 ^ below) x y after w
    (omega (arith, few, room))
    twiddles (rw can.even at before) stage)

-- after the last stage
pub level_top : {m : ℕ} (g z : ℕ) {b size blocks above below last count length : ℕ} (x : ℕ → ℕ) {y : ℕ → ℕ}
    → IsTreeLevel size blocks above below last count length → length ≤ size → 0 < length
    → IsLevel m g z b blocks size (λ k. 2 ^ below * x k) y → (i : ℕ) → i < length → Congruent m (y i) (count * x i)
level_top {m} g z {b} {size} {blocks} {above} {below} {count = count} x {y} tree full some level i l =
    let one : blocks ≡ 1 = one_block tree full some in
    let f = λ (k : ℕ). 2 ^ below * x (k * size + i) * constant g z (b * blocks + 0) ^ k in
    let first : f 0 ≡ 2 ^ below * x i = grind (arith, pow-zero) in
    let sum : sum_below blocks f ≡ f 0 = grind (arith, sum_below-suc 0 f, sum_below-zero f) in
    let power : 2 ^ below ≡ count = grind (arith, tree.counted) in
    mod_trans (mod_of_eq (ap y (let e : i ≡ 0 * size + i = omega arith in e)))
    (mod_trans (level.each 0 i (omega (arith, one))
    (omega (arith, full, l))) (mod_of_eq (omega (arith, sum, first, ap (λ v. v * x i) power))))
