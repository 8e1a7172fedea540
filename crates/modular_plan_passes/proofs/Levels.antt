-- A stage of a split takes the remainders of one level of the tree to those of the next.
use Rattle.std.proofs.Common.{◌≡◌, ℕ, suc, zero, ◌+◌, ◌-◌, ◌*◌, ◌/◌, ◌%◌, ◌^◌, ◌<◌}
use Rattle.std.proofs.Common.{◌≤◌, sym, ◌∙◌, ap, arith}
use Rattle.std.proofs.Math.Nat.{pow-zero, zero-mod, mul-le-mul_left}
use Rattle.std.proofs.lemmas.Nat.{pow-add, pow_pos}
use Rattle.modular_word.specs.Congruence.{Congruent}
use Rattle.modular_word.specs.Sums.{sum_below}
use Rattle.modular_word.proofs.Congruence.{mod_of_eq, mod_refl, mod_sym, mod_trans, mod_add}
use Rattle.modular_word.proofs.Congruence.{mod_mul, mod_pow, mod_add_cancel, residue_of}
use Rattle.modular_word.proofs.Powers.{pow-one}
use Rattle.modular_word.proofs.Sums.{sum_below-zero, sum_below-suc, sum_below-congruent, sum_below-add, sum_below-mul}
use Rattle.modular_transform.specs.Orders.{bits_reversed}
use Rattle.modular_transform.proofs.BitReversal.{bits_reversed-suc, bits_reversed_of_high, bits_reversed_below}
use Rattle.modular_transform.proofs.MinusOne.{IsMinusOne, pow_of_square, even_power_of_minus_one}
use Rattle.modular_plan_passes.specs.Plans.{constant, AreTwiddles, AreRemainders}
use Rattle.modular_plan_passes.specs.Steps.{IsPairSplit, StageDone, IsLevel}
use Rattle.modular_plan_passes.proofs.TreeLevels.{IsTreeLevel, HasStage}

-- the terms at even and at odd places
sum_doubled : (n : ℕ) (f : ℕ → ℕ) → sum_below (n * 2) f ≡ sum_below n (λ i. f (2 * i) + f (2 * i + 1))
sum_doubled zero f = sum_below-zero f ∙ sym (sum_below-zero (λ i. f (2 * i) + f (2 * i + 1)))
sum_doubled (suc n) f =
    grind (
      arith,
      sum_below-suc (suc (n * 2)) f,
      sum_below-suc (n * 2) f,
      sum_below-suc n (λ i. f (2 * i) + f (2 * i + 1)),
      sum_doubled n f,
    )

-- the terms 2 * k and 2 * k + 1 of the sum by a root v of c
term_pair_by_square_root : {m : ℕ} (half i v c k : ℕ) (x : ℕ → ℕ) → Congruent m (v * v) c
    → Congruent m (x ((2 * k) * half + i) * v ^ (2 * k) + x ((2 * k + 1) * half + i) * v ^ (2 * k + 1))
    (x (k * (half + half) + i) * c ^ k + v * (x (k * (half + half) + (half + i)) * c ^ k))
term_pair_by_square_root {m} half i v c k x root =
    let square : Congruent m (v ^ (2 * k)) (c ^ k) = mod_trans (mod_of_eq (sym (pow_of_square v k))) (mod_pow k root) in
    let power : v ^ (2 * k + 1) ≡ v ^ (2 * k) * v = pow-add v (2 * k) 1 ∙ ap (λ n. v ^ (2 * k) * n) (pow-one v) in
    mod_add (mod_mul (mod_of_eq (ap x (omega arith))) square)
    (mod_trans (mod_mul (mod_of_eq (ap x (omega arith))) (mod_trans (mod_of_eq power) (mod_mul square (mod_refl v))))
    (mod_of_eq (let e : (y : ℕ) → y * (c ^ k * v) ≡ v * (y * c ^ k) = λ y. omega arith in e _)))

-- the sum by a root v of c, from the two sums by c
pub level_sum : {m : ℕ} (count half i v c : ℕ) (x : ℕ → ℕ) → Congruent m (v * v) c
    → Congruent m (sum_below (count * 2) (λ k. x (k * half + i) * v ^ k))
    (sum_below count (λ k. x (k * (half + half) + i) * c ^ k)
    + v * sum_below count (λ k. x (k * (half + half) + (half + i)) * c ^ k))
level_sum {m} count half i v c x root =
    let f = λ (k : ℕ). x (k * half + i) * v ^ k in
    let a = λ (k : ℕ). x (k * (half + half) + i) * c ^ k in
    let b = λ (k : ℕ). x (k * (half + half) + (half + i)) * c ^ k in
    mod_trans (mod_of_eq (sum_doubled count f))
    (mod_trans (sum_below-congruent count (λ k. f (2 * k) + f (2 * k + 1)) (λ k. a k + v * b k)
    (λ k l. term_pair_by_square_root half i v c k x root))
    (mod_of_eq (sum_below-add count a (λ k. v * b k) ∙ ap (λ s. sum_below count a + s) (sum_below-mul count v b))))

-- the reversed bits of a block with u bits, and of its halves
pub record AreReversed (u p : ℕ) : Type 0 where
  pub whole : bits_reversed (suc u) p ≡ bits_reversed u p + bits_reversed u p
  pub even : bits_reversed (suc u) (2 * p) ≡ bits_reversed u p
  pub odd : bits_reversed (suc u) (2 * p + 1) ≡ bits_reversed u p + 2 ^ u

are_reversed : (u p : ℕ) → p < 2 ^ u → AreReversed u p
are_reversed u p below = record {
  whole = grind (arith, bits_reversed_of_high u p 0);
  even = grind (arith, bits_reversed-suc);
  odd = grind (arith, bits_reversed-suc);
}

-- the constants_of_halves of a block, c, and of its halves, by the entry w of the table for the block
pub record AreConstants (m c even odd w : ℕ) : Type 0 where
  pub even_is : Congruent m even w
  pub root : Congruent m (even * even) c
  pub odd_root : Congruent m (odd * odd) c
  pub opposite : Congruent m (odd + w) 0
  pub inverse : ℕ
  pub unit : Congruent m (w * inverse) 1

pub constants_of_halves : {m : ℕ} (g z count p : ℕ) (w : ℕ → ℕ) → AreTwiddles m g z count w → p < count
    → AreConstants m (constant g z p) (constant g z (2 * p)) (constant g z (2 * p + 1)) (w p)
constants_of_halves {m} g zero count p w twiddles below = absurd (omega arith)
constants_of_halves {m} g (suc u) count p w twiddles below =
    let r = bits_reversed u p in
    let t = g ^ r in
    let h = g ^ (2 ^ u) in
    let within : p < 2 ^ u = omega (arith, twiddles.half, below) in
    let half : 2 ^ suc u / 2 ≡ 2 ^ u = omega arith in
    let here : suc u - 1 ≡ u = omega arith in
    let are = are_reversed u p within in
    let entry : Congruent m (w p) t = mod_trans (mod_of_eq (twiddles.entry p below
    ∙ ap (λ v. g ^ bits_reversed v p % m) here)) (residue_of t) in
    let minus : IsMinusOne m h = record {
      and_one = record {
        same = ap (λ k. (g ^ k + 1) % m) (sym half) ∙ twiddles.suits.half_turn (omega (arith, pow_pos u))
            ∙ sym (zero-mod m);
      };
    } in
    let square : Congruent m (h * h) 1 =
    mod_trans (mod_of_eq (sym (pow-one (h * h)) ∙ pow_of_square h 1)) (even_power_of_minus_one 1 minus) in
    let even_is : constant g (suc u) (2 * p) ≡ t = ap (λ k. g ^ k) are.even in
    let c_is : constant g (suc u) p ≡ t * t = ap (λ k. g ^ k) are.whole ∙ pow-add g r r in
    let odd_is : constant g (suc u) (2 * p + 1) ≡ t * h = ap (λ k. g ^ k) are.odd ∙ pow-add g r (2 ^ u) in
    let up : t * g ^ (2 ^ u - r) ≡ h = sym (pow-add g r (2 ^ u - r))
    ∙ ap (λ k. g ^ k) (let e : r + (2 ^ u - r) ≡ 2 ^ u = omega (arith, bits_reversed_below u p) in e) in
    record {
      even_is = mod_trans (mod_of_eq even_is) (mod_sym entry);
      root = mod_of_eq (ap (λ v. v * v) even_is ∙ sym c_is);
      odd_root = mod_trans (mod_of_eq (ap (λ v. v * v) odd_is
          ∙ (let e : (t * h) * (t * h) ≡ (t * t) * (h * h) = omega arith in e)))
          (mod_trans (mod_mul (mod_refl (t * t)) square) (mod_of_eq (omega (arith, c_is))));
      opposite = mod_trans (mod_add (mod_of_eq odd_is) entry)
          (mod_trans (mod_of_eq (let e : t * h + t ≡ t * (h + 1) = omega arith in e))
          (mod_trans (mod_mul (mod_refl t) minus.and_one) (mod_of_eq (omega arith))));
      inverse = g ^ (2 ^ u - r) * h;
      unit = mod_trans (mod_mul entry (mod_refl _)) (mod_trans (mod_of_eq
          ((let e : t * (g ^ (2 ^ u - r) * h) ≡ t * g ^ (2 ^ u - r) * h = omega arith in e) ∙ ap (λ v. v * h) up))
          square);
    }

-- coefficient i of the remainder for block q of the tree, of a polynomial with the coefficients x
abbrev pub coefficient_at : ℕ → ℕ → ℕ → ℕ → (ℕ → ℕ) → ℕ → ℕ → ℕ
coefficient_at g z count size x q i = sum_below count (λ k. x (k * size + i) * constant g z q ^ k)

-- what is at a place of a list is at a place of another name
pub moved_to : {m p q p' q' : ℕ} (y s : ℕ → ℕ) → p ≡ p' → q ≡ q' → Congruent m (y p) (s q) → Congruent m (y p') (s q')
moved_to {m} {q = q} {p' = p'} y s e f h = grind arith

-- a pair of the next level
pub level_pair : {m g z entries y v sum difference : ℕ} {w : ℕ → ℕ} (q count half i : ℕ) (x : ℕ → ℕ)
    → AreTwiddles m g z entries w → q < entries → Congruent m y (coefficient_at g z count (half + half) x q i)
    → Congruent m v (coefficient_at g z count (half + half) x q (half + i)) → IsPairSplit m (w q) y v sum difference
    → Congruent m sum (coefficient_at g z (count * 2) half x (2 * q) i)
    × Congruent m difference (coefficient_at g z (count * 2) half x (2 * q + 1) i)
level_pair {m} {g} {z} {entries} {y} {v} {sum} {difference} {w} q count half i x twiddles below first second pair =
    let even = constant g z (2 * q) in
    let odd = constant g z (2 * q + 1) in
    let are = constants_of_halves g z entries q w twiddles below in
    let a = coefficient_at g z count (half + half) x q i in
    let d = coefficient_at g z count (half + half) x q (half + i) in
    let left : Congruent m (difference + v * w q) (a + odd * d + v * w q) =
    mod_trans pair.subtracted
    (mod_trans first (mod_sym (mod_trans (mod_add (mod_refl (a + odd * d)) (mod_mul second (mod_refl (w q))))
    (mod_trans (mod_of_eq (let e : a + odd * d + d * w q ≡ a + (odd + w q) * d = omega arith in e))
    (mod_trans (mod_add (mod_refl a) (mod_mul are.opposite (mod_refl d))) (mod_of_eq (omega arith))))))) in (
      mod_trans pair.summed (mod_trans (mod_add first (mod_trans (mod_mul second (mod_sym are.even_is))
          (mod_of_eq (let e : d * even ≡ even * d = omega arith in e))))
          (mod_sym (level_sum count half i even _ x are.root))),
      mod_trans (mod_add_cancel (v * w q) left) (mod_sym (level_sum count half i odd _ x are.odd_root)),
    )

pub by_halves : (P : ℕ → Type 0) (j : ℕ) → P (2 * (j / 2)) → P (2 * (j / 2) + 1) → P j
by_halves P j even odd = grind arith

pub level_more : {m g z entries : ℕ} (b count half : ℕ) (x y after w : ℕ → ℕ) → (b + 1) * count ≤ entries
    → AreTwiddles m g z entries w → IsLevel m g z b count (half + half) x y
    → StageDone (λ p. IsPairSplit m (w (b * count + p))) half count y after → IsLevel m g z b (count * 2) half x after
level_more {m} {g} {z} b count half x y after w room twiddles before stage = record {
  each = λ j i l li.
      let p : ℕ = j / 2 in
      let lp : p < count = omega arith in
      let both = level_pair (b * count + p) count half i x twiddles (omega arith) (before.each p i lp (omega arith))
      (before.each p (half + i) lp (omega arith)) (stage.pairs p i lp li) in
      let at = λ (q : ℕ). coefficient_at g z (count * 2) half x q i in
      by_halves (λ j. Congruent m (after (j * half + i)) (at (b * (count * 2) + j))) j
      (moved_to after at (omega arith) (omega arith) both.0) (moved_to after at (omega arith) (omega arith) both.1);
}

-- one stage of the loop
pub level_next : {m : ℕ} (g z : ℕ) {b size blocks above below last count length entries : ℕ} {x y after w : ℕ → ℕ}
    → HasStage size blocks above below last count length → (b + 1) * (count / 2) ≤ entries → AreTwiddles m g z entries w
    → IsLevel m g z b blocks size x y → StageDone (λ p. IsPairSplit m (w (b * blocks + p))) (size / 2) blocks y after
    → IsLevel m g z b (blocks * 2) (size / 2) x after
level_next g z {b} {size} {blocks} {x = x} {y} {after} {w} has room twiddles before stage =
    let few = mul-le-mul_left (b + 1) has.few in
    level_more b blocks (size / 2) x y after w (omega (arith, few, room)) twiddles (rw has.twice at before) stage

pub level_first : {m : ℕ} (g z b n : ℕ) (x : ℕ → ℕ) → IsLevel m g z b 1 n x x
level_first {m} g z b n x = grind (arith, pow-zero, mod_of_eq, sum_below-suc, sum_below-zero)

-- no stage is left
pub level_end : {m : ℕ} (g z : ℕ) {b size blocks above below last count length : ℕ} {x y : ℕ → ℕ}
    → IsTreeLevel size blocks above below last count length → below ≡ 0 → IsLevel m g z b blocks size x y
    → IsLevel m g z b count last x y
level_end {m} g z {b} {size} {blocks} {last = last} {x = x} {y} tree none level = grind arith

-- the residues of a level
pub remainders_of : {m : ℕ} (g z b count last length : ℕ) (x y out : ℕ → ℕ) → count * last ≡ length
    → IsLevel m g z b count last x y → ((i : ℕ) → i < length → out i ≡ y i % m)
    → AreRemainders m g z b count last x out
remainders_of {m} g z b count last length x y out whole level residues = grind arith

-- the entries of the table for a stage
pub table_room : (blocks count b entries : ℕ) → blocks ≤ count / 2 → (b + 1) * (count / 2) ≤ entries
    → b * blocks + blocks ≤ entries
table_room blocks count b entries few room = grind (arith, mul-le-mul_left (b + 1) few)
