-- The products of the blocks, joined, are the product modulo X^n - c.
use Rattle.std.proofs.Common.{◌≡◌, ◌≢◌, ℕ, suc, zero, ◌+◌, ◌-◌, ◌*◌, ◌/◌, ◌%◌, ◌^◌, ◌<◌, ◌≤◌}
use Rattle.std.proofs.Common.{refl, sym, ◌∙◌, ap, arith, eqb, cond, ◌||◌}
use Rattle.std.proofs.Math.Nat.{two-pow-succ, pow-zero, mul-le-mul_left}
use Rattle.std.specs.Int.{IsPowerOfTwo}
use Rattle.modular_word.specs.Congruence.{Congruent}
use Rattle.modular_word.specs.Sums.{sum_below}
use Rattle.modular_word.proofs.Congruence.{mod_of_eq, mod_refl, mod_sym, mod_trans, mod_add}
use Rattle.modular_word.proofs.Congruence.{mod_mul, mod_pow, mod_add_cancel, residue_of}
use Rattle.modular_word.proofs.Powers.{pow-one}
use Rattle.modular_word.proofs.Sums.{sum_below-same, sum_below-add}
use Rattle.modular_transform.specs.Transforms.{cyclic_product}
use Rattle.modular_transform.proofs.BitReversal.{bits_reversed_of_zero}
use Rattle.modular_transform.proofs.MinusOne.{pow_of_square}
use Rattle.modular_plan_passes.specs.Plans.{constant, AreTwiddles, AreRemainders}
use Rattle.modular_plan_passes.proofs.Bounds.{multiple_is_none}
use Rattle.modular_plan_passes.proofs.Levels.{by_halves, constants_of_halves}
use Rattle.modular_plan_transforms.specs.PlanConditions.{AreBlocks}
use Rattle.modular_plan_transforms.specs.ProductConditions.{AreSmallBlocks}
use Rattle.modular_plan_transforms.specs.Products.{coefficient, product_modulo, AreProducts}
use Rattle.modular_plan_transforms.proofs.ProductColumns.{column_of_product}

-- the square of a constant is the constant of the block above
square_of_constant : {m : ℕ} (g z count j : ℕ) (w : ℕ → ℕ) → AreTwiddles m g z count w → j / 2 < count
    → Congruent m (constant g z j * constant g z j) (constant g z (j / 2))
square_of_constant {m} g z count j w twiddles below =
    let are = constants_of_halves g z count (j / 2) w twiddles below in
    by_halves (λ k. Congruent m (constant g z k * constant g z k) (constant g z (j / 2))) j are.root are.odd_root

-- 2^k blocks below block b: their constants_of_halves to that power are that of b
power_of_constant : {m : ℕ} (g z b k j count : ℕ) (w : ℕ → ℕ) → AreTwiddles m g z count w
    → (b + 1) * (2 ^ k / 2) ≤ count
    → j < 2 ^ k → Congruent m (constant g z (b * 2 ^ k + j) ^ (2 ^ k)) (constant g z b)
power_of_constant g z b zero j count w twiddles room below = grind (arith, mod_of_eq, pow-one)
power_of_constant g z b (suc k) j count w twiddles room below =
    let two = two-pow-succ k in
    let halved : 2 ^ suc k / 2 ≡ 2 ^ k = omega (arith, two) in
    let enough = rw halved at room in
    let less = mul-le-mul_left (b + 1) (let e : 2 ^ k / 2 ≤ 2 ^ k = omega arith in e) in
    let half : (b * 2 ^ suc k + j) / 2 ≡ b * 2 ^ k + j / 2 = omega (arith, ap (λ v. b * v) two) in
    let within : j / 2 < 2 ^ k = omega (arith, below, two) in
    let c = constant g z (b * 2 ^ suc k + j) in
    let square : c ^ (2 ^ suc k) ≡ (c * c) ^ (2 ^ k) =
    ap (λ v. c ^ v) (let e : 2 ^ suc k ≡ 2 * 2 ^ k = omega (arith, two) in e) ∙ sym (pow_of_square c (2 ^ k)) in
    mod_trans (mod_of_eq square) (mod_trans (mod_pow (2 ^ k) (rw half at
    (square_of_constant g z count (b * 2 ^ suc k + j) w twiddles (omega (arith, half, enough, within)))))
    (power_of_constant g z b k (j / 2) count w twiddles (omega (arith, less, enough)) within))

-- remainders are their own residues
pub residues_again : {m : ℕ} (g z b count last : ℕ) (x u : ℕ → ℕ) → AreRemainders m g z b count last x u
    → AreRemainders m g z b count last x (λ i. u i % m)
residues_again {m} g z b count last x u are = grind arith

-- the list of products of numbers congruent to remainders with remainders is that of the remainders of the product
pub remainders_of_loose_product : {m : ℕ} (g z b count last entries : ℕ) (w x y u v p : ℕ → ℕ) → IsPowerOfTwo count
    → (b + 1) * (count / 2) ≤ entries → AreTwiddles m g z entries w
    → AreRemainders m g z b count last x (λ i. u i % m) → AreRemainders m g z b count last y v
    → AreProducts m g z b count last u v p
    → AreRemainders m g z b count last (product_modulo m (count * last) (constant g z b) x y) (λ i. p i % m)
remainders_of_loose_product {m} g z b count last entries w x y u v p power room twiddles first second products =
    record {
      each = λ j i lj li.
          let c = constant g z (b * count + j) in
          let column = column_of_product count last c (constant g z b) i x y
          (λ k. u (j * last + k)) (λ k. v (j * last + k)) li
          (rw power.1 (power_of_constant g z b power.0 j entries w twiddles (rw power.1 at room) (rw power.1 at lj)))
          (λ a la. record { same = first.each j a lj la })
          (λ a la. mod_trans (mod_of_eq (second.each j a lj la)) (residue_of _)) in
          ap (λ n. n % m) (products.each j i lj li) ∙ column.same;
    }

-- .. of remainders with remainders
pub remainders_of_product : {m : ℕ} (g z b count last entries : ℕ) (w x y u v p : ℕ → ℕ) → IsPowerOfTwo count
    → (b + 1) * (count / 2) ≤ entries → AreTwiddles m g z entries w
    → AreRemainders m g z b count last x u → AreRemainders m g z b count last y v → AreProducts m g z b count last u v p
    → AreRemainders m g z b count last (product_modulo m (count * last) (constant g z b) x y) (λ i. p i % m)
remainders_of_product {m} g z b count last entries w x y u v p power room twiddles first second products =
    remainders_of_loose_product g z b count last entries w x y u v p power room twiddles
    (residues_again g z b count last x u first) second products

-- twice as many factors as half of the blocks
half_room : (b count n : ℕ) → (b + 1) * count ≤ 2 * n → (b + 1) * (count / 2) ≤ n
half_room b count n room = grind (arith, mul-le-mul_left)

-- blocks with the factors for their products have those for a split
pub blocks_of : {n entries b last : ℕ} → AreSmallBlocks n entries b last → AreBlocks n entries b last
blocks_of {n} {entries} {b} {last} blocks = grind (arith, half_room)

-- an inverse of the number of blocks takes it away
scaled_back : {m : ℕ} (count part v : ℕ) → Congruent m (count * part) 1 → (count * (v % m) * part) % m ≡ v % m
scaled_back {m} count part v one =
    (mod_trans (mod_of_eq (omega arith)) (mod_trans (mod_mul one (residue_of v)) (mod_of_eq (omega arith)))).same

-- the entries that are joined are the product
pub joined_product : {m : ℕ} (g z b last entries count size part : ℕ) (w x y u v p out : ℕ → ℕ) → IsPowerOfTwo count
    → count * last ≡ size → (b + 1) * count ≤ 2 * entries
    → AreTwiddles m g z entries w → Congruent m (count * part) 1
    → AreRemainders m g z b count last x (λ i. u i % m)
    → AreRemainders m g z b count last y v → AreProducts m g z b count last u v p
    → ((r : ℕ → ℕ) → AreRemainders m g z b count last r (λ i. p i % m) → (i : ℕ) → i < size
    → out i ≡ (count * r i * part) % m)
    → (e : ℕ) → e < size → out e ≡ product_modulo m size (constant g z b) x y e
joined_product {m} g z b last entries count size part w x y u v p out power whole room twiddles one first
    second products joined e below =
    joined _ (remainders_of_loose_product g z b count last entries w x y u v p power
    (half_room b count entries room) twiddles first second products) e below
    ∙ scaled_back count part _ one ∙ ap (λ n. product_modulo m n (constant g z b) x y e) whole

-- a test of two places is two tests
either_test_is_sum : (n s e v : ℕ) → 0 < n → cond (eqb s e || eqb s (e + n)) v 0 ≡ cond (eqb s e) v 0 + cond
    (eqb s (e + n)) v 0
either_test_is_sum n s e v some = grind arith

-- modulo X^n - 1 the product is the product_is_cyclic one
pub product_is_cyclic : (m n e g z : ℕ) (x y : ℕ → ℕ) → 0 < n
    → product_modulo m n (constant g z 0) x y e ≡ cyclic_product m n x y e
product_is_cyclic m n e g z x y some =
    let one : constant g z 0 ≡ 1 = ap (λ k. g ^ k) (bits_reversed_of_zero z) ∙ pow-zero g in
    let f = λ (i j : ℕ). cond (eqb (i + j) e) (x i * y j) 0 in
    let h = λ (i j : ℕ). cond (eqb (i + j) (e + n)) (x i * y j) 0 in
    let sums = sum_below-same n _ _ (λ i l. sum_below-same n _ _ (λ j k. either_test_is_sum n (i + j) e (x i * y j)
    some)
    ∙ sum_below-add n (f i) (h i))
    ∙ sum_below-add n (λ i. sum_below n (f i)) (λ i. sum_below n (h i)) in
    grind arith

-- the constant of block 1 is -1
pub block_one_is_negacyclic : {m : ℕ} (n e g z count : ℕ) (w x y : ℕ → ℕ) → 0 < m → 0 < count
    → AreTwiddles m g z count w
    → product_modulo m n (constant g z 1) x y e ≡ product_modulo m n (m - 1) x y e
block_one_is_negacyclic {m} n e g z count w x y positive some twiddles =
    let are = constants_of_halves g z count 0 w twiddles some in
    let one : constant g z 0 ≡ 1 = ap (λ k. g ^ k) (bits_reversed_of_zero z) ∙ pow-zero g in
    let zero_block : Congruent m (constant g z 1 + 1) 0 =
    mod_trans (mod_add (mod_refl _) (mod_trans (mod_of_eq (sym one)) are.even_is)) are.opposite in
    let same : Congruent m (constant g z 1) (m - 1) =
    mod_add_cancel 1 (mod_trans zero_block (mod_sym (multiple_is_none 1 (m - 1 + 1) (omega (arith, positive))))) in
    (mod_add (mod_refl (coefficient n x y e)) (mod_mul same (mod_refl (coefficient n x y (e + n))))).same

even_count : (k count : ℕ) → count ≡ 2 ^ k → count ≢ 1 → count ≡ 2 * (count / 2)
even_count zero count is more = let one : 2 ^ 0 ≡ 1 = refl in absurd (more (is ∙ one))
even_count (suc k) count is more = let two = two-pow-succ k in omega (arith, is, two)

-- .. and the other way, for more than one block
pub whole_room : (b count n : ℕ) → IsPowerOfTwo count → count ≢ 1 → (b + 1) * (count / 2) ≤ n → (b + 1) * count ≤ 2 * n
whole_room b count n power more room = grind (arith, even_count)
