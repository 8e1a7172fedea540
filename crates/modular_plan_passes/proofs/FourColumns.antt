-- Four entries at once: what is read and number_written of them, and the columns of four quarters.
use Rattle.std.proofs.Common.{◌≡◌, ◌≢◌, ℕ, ◌+◌, ◌-◌, ◌*◌, ◌<◌, ◌≤◌, List, ◌++◌, All, get_or, length}
use Rattle.std.proofs.Common.{sym, ◌∙◌, arith, subst}
use Rattle.std.proofs.Math.ListN.{set}
use Rattle.modular_plan_passes.specs.Factors.{IsFactor}
use Rattle.modular_plan_passes.specs.Plans.{numbers}
use Rattle.modular_plan_passes.specs.Splits.{AreAt, AreFourBelow, AreNeighbours, AreQuarters, ColumnsDone}
use Rattle.modular_plan_passes.specs.Splits.{FourDoneWithin, HalvesDone}
use Rattle.modular_plan_passes.specs.Steps.{IsFourSplit, FourDone, BlockOfFours, StageOfFours}
use Rattle.modular_plan_passes.proofs.Doublings.{same_factor}
use Rattle.modular_plan_passes.proofs.Entries.{number_written, number_not_written, number_read, all_below, bounded_at}
use Rattle.modular_plan_passes.proofs.Fours.{relation_of_equal_numbers, of_halves, stage_of_fours_more}
use Rattle.modular_plan_passes.proofs.ListParts.{number_in_front, number_behind}

-- four writes of what comes of the numbers that were read
pub four_done_by_read_numbers : (R : ℕ → ℕ → ℕ → ℕ → ℕ → ℕ → ℕ → ℕ → Type 0) {i j k l a b c d p q r s : ℕ} {x y : ℕ → ℕ}
    → AreAt i j k l x a b c d
    → FourDone (λ x y z t e f g h. (e ≡ p) × (f ≡ q) × (g ≡ r) × (h ≡ s)) i j k l x y
    → R a b c d p q r s → FourDone R i j k l x y
four_done_by_read_numbers R {i} {j} {k} {l} {a} {b} {c} {d} {p} {q} {r} {s} {x} {y} at step four = grind arith

-- column i of four lists, whose entries are below a bound
pub record IsColumn {X : Type 0} (number : X → ℕ) (bound i : ℕ) (a b c d : List X) : Type 0 where
  pub below : AreFourBelow bound (numbers number a i) (numbers number b i) (numbers number c i) (numbers number d i)
  pub within : (i < length a) × (i < length b) × (i < length c) × (i < length d)

-- what was read of a column
pub column_given : {X : Type 0} {number : X → ℕ} {bound i : ℕ} {a b c d : List X} {x y z t : X}
    → IsColumn number bound i a b c d → x ≡ get_or a i x → y ≡ get_or b i y → z ≡ get_or c i z → t ≡ get_or d i t
    → AreFourBelow bound (number x) (number y) (number z) (number t)
column_given {X} {number} {bound} {i} {a} {b} {c} {d} {x} {y} {z} {t} at is_x is_y is_z is_t =
    grind (arith, number_read)

-- the next column, of which nothing is done yet
pub column_at : {X : Type 0} (number : X → ℕ) {bound limit : ℕ} (i : ℕ) {a b c d a' b' c' d' : List X}
    {R : ℕ → ℕ → ℕ → ℕ → ℕ → ℕ → ℕ → ℕ → Type 0} → AreQuarters number bound limit a b c d
    → ColumnsDone R i (numbers number a) (numbers number b) (numbers number c) (numbers number d) (numbers number a')
    (numbers number b') (numbers number c') (numbers number d')
    → length a' ≡ length a → length b' ≡ length b → length c' ≡ length c → length d' ≡ length d → i < length a
    → IsColumn number bound i a' b' c' d'
column_at number {bound} {limit} i {a} {b} {c} {d} {a'} {b'} {c'} {d'} {R} given done na nb nc nd within =
    grind (arith, bounded_at)

-- column i of four quarters is done, and the others are unchanged
pub record ColumnDone (R : ℕ → ℕ → ℕ → ℕ → ℕ → ℕ → ℕ → ℕ → Type 0) (i : ℕ) (a b c d a' b' c' d' : ℕ → ℕ) : Type 0 where
  pub column : R (a i) (b i) (c i) (d i) (a' i) (b' i) (c' i) (d' i)
  pub kept : (k : ℕ) → k ≢ i → (a' k ≡ a k) × (b' k ≡ b k) × (c' k ≡ c k) × (d' k ≡ d k)

-- a column of four quarters is number_written
pub column_done : {X : Type 0} (number : X → ℕ) (R : ℕ → ℕ → ℕ → ℕ → ℕ → ℕ → ℕ → ℕ → Type 0) (a b c d : List X) (i : ℕ)
    (x y z t : X) → i < length a → i < length b → i < length c → i < length d
    → R (numbers number a i) (numbers number b i) (numbers number c i) (numbers number d i) (number x) (number y)
    (number z)
    (number t)
    → ColumnDone R i (numbers number a) (numbers number b) (numbers number c) (numbers number d)
    (numbers number (set a i x))
    (numbers number (set b i y)) (numbers number (set c i z)) (numbers number (set d i t))
column_done number R a b c d i x y z t la lb lc ld four =
    grind (arith, relation_of_equal_numbers, number_written, number_not_written)

-- one more column
pub one_more_column_done : (R : ℕ → ℕ → ℕ → ℕ → ℕ → ℕ → ℕ → ℕ → Type 0) (i : ℕ) {a b c d a' b' c' d' e f g h : ℕ → ℕ}
    → ColumnsDone R i a b c d a' b' c' d' → ColumnDone R i a' b' c' d' e f g h → ColumnsDone R (i + 1) a b c d e f g h
one_more_column_done R i {a} {b} {c} {d} {a'} {b'} {c'} {d'} {e} {f} {g} {h} before step = grind arith

-- all columns
pub columns_all : {R : ℕ → ℕ → ℕ → ℕ → ℕ → ℕ → ℕ → ℕ → Type 0} {i n : ℕ} {a b c d a' b' c' d' : ℕ → ℕ}
    → ColumnsDone R i a b c d a' b' c' d' → i ≡ n → ColumnsDone R n a b c d a' b' c' d'
columns_all {R} {i} {n} {a} {b} {c} {d} {a'} {b'} {c'} {d'} done e = grind arith

-- the quarters make two halves
pub halves_done : {X : Type 0} (number : X → ℕ) (R : ℕ → ℕ → ℕ → ℕ → ℕ → ℕ → ℕ → ℕ → Type 0) (q : ℕ)
    (a b c d a' b' c' d' : List X) → length a ≡ q → length c ≡ q → length a' ≡ q → length c' ≡ q
    → ColumnsDone R q (numbers number a) (numbers number b) (numbers number c) (numbers number d) (numbers number a')
    (numbers number b') (numbers number c') (numbers number d')
    → HalvesDone R q (numbers number (a ++ b)) (numbers number (c ++ d)) (numbers number (a' ++ b'))
    (numbers number (c' ++ d'))
halves_done number R q a b c d a' b' c' d' la lc la' lc' done =
    grind (arith, relation_of_equal_numbers, number_in_front, number_behind)

-- the numbers of two halves within a longer list
record HalvesOf {X : Type 0} (number : X → ℕ) (first q : ℕ) (f l h t : List X) : Type 0 where
  low : (i : ℕ) → i < q + q → numbers number (f ++ (l ++ (h ++ t))) (first + i) ≡ numbers number l i
  high : (i : ℕ) → i < q + q → numbers number (f ++ (l ++ (h ++ t))) (first + (q + q + i)) ≡ numbers number h i
  before : (k : ℕ) → k < first → numbers number (f ++ (l ++ (h ++ t))) k ≡ numbers number f k
  after : (k : ℕ) → numbers number (f ++ (l ++ (h ++ t))) (first + (q + q + (q + q + k))) ≡ numbers number t k

halves_of : {X : Type 0} (number : X → ℕ) (first q : ℕ) (f l h t : List X) → length f ≡ first → length l ≡ q + q
    → length h ≡ q + q → HalvesOf number first q f l h t
halves_of number first q f l h t lf ll lh = omega (arith, number_behind, number_in_front)

-- the halves make the block
pub block_of_halves : {X : Type 0} (number : X → ℕ) (R : ℕ → ℕ → ℕ → ℕ → ℕ → ℕ → ℕ → ℕ → Type 0) (first q : ℕ)
    (f l h t l' h' : List X) → length f ≡ first → length l ≡ q + q → length h ≡ q + q → length l' ≡ q + q
    → length h' ≡ q + q
    → HalvesDone R q (numbers number l) (numbers number h) (numbers number l') (numbers number h')
    → BlockOfFours R first q q (numbers number (f ++ (l ++ (h ++ t)))) (numbers number (f ++ (l' ++ (h' ++ t))))
block_of_halves number R first q f l h t l' h' lf ll lh ll' lh' done =
    let x = halves_of number first q f l h t lf ll lh in
    let y = halves_of number first q f l' h' t lf ll' lh' in
    record {
      fours = λ i k. grind (arith, done.columns i k, x.low, x.high, y.low, y.high);
      others = λ i k less. absurd (omega arith);
      before = λ k less. y.before k less ∙ sym (x.before k less);
      after = λ k beyond.
          let j : ℕ = k - (first + (q + q + (q + q))) in
          grind (arith, x.after j, y.after j);
    }

-- the entries of a block that are below a bound
pub fours_below : {R : ℕ → ℕ → ℕ → ℕ → ℕ → ℕ → ℕ → ℕ → Type 0} {bound first q : ℕ} (k : ℕ) {x y : ℕ → ℕ}
    → BlockOfFours (FourDoneWithin bound R) first q q x y → first ≤ k → k < first + (q + q + (q + q)) → y k < bound
fours_below {R} {bound} {first} {q} k {x} {y} done least l =
    subst (λ v. y v < bound) (let e : first + (k - first) ≡ k = omega arith in e)
    (of_halves (λ v. y (first + v) < bound) (q + q) (k - first) (omega arith)
    (λ j lj. of_halves (λ v. y (first + v) < bound) q j lj (λ i li. (done.fours i li).below.first)
    (λ i li. (done.fours i li).below.second))
    (λ j lj. of_halves (λ v. y (first + (q + q + v)) < bound) q j lj (λ i li. (done.fours i li).below.third)
    (λ i li. (done.fours i li).below.fourth)))

-- .. and with them all entries
pub block_below : {X : Type 0} (number : X → ℕ) {bound first q : ℕ} (old new : List X)
    {R : ℕ → ℕ → ℕ → ℕ → ℕ → ℕ → ℕ → ℕ → Type 0} → length new ≡ length old → All (λ x. number x < bound) old
    → BlockOfFours (FourDoneWithin bound R) first q q (numbers number old) (numbers number new)
    → All (λ x. number x < bound) new
block_below number {bound} {first} {q} old new {R} same all done =
    all_below number bound (length old) new same
    (λ k l. grind (arith, bounded_at number bound old k all l, done.before k, done.after k, fours_below k done))

-- the next four neighbours, which are unchanged as yet
pub neighbours_given : {X : Type 0} (number : X → ℕ) {bound : ℕ} (p : ℕ) (old new : List X)
    → All (λ x. number x < bound) old
    → ((k : ℕ) → p * 4 ≤ k → numbers number new k ≡ numbers number old k) → length new ≡ length old
    → p * 4 + 3 < length old → AreNeighbours number bound (p * 4) new
neighbours_given number {bound} p old new all kept same within = grind (arith, bounded_at)

-- a factor that was read from a table
pub factor_read : {F : Type 0} (value quotient : F → ℕ) {base m w r : ℕ} (table : List F) (i : ℕ) (x : F)
    → All (λ f. IsFactor base m (value f) (quotient f)) table → i < length table → x ≡ get_or table i x
    → w ≡ value x → r ≡ quotient x → IsFactor base m w r
factor_read value quotient {base} {m} {w} {r} table i x all within is e f = grind (arith, same_factor)

-- one more block of a stage, by the factors that were read from the table w
pub stage_with : (m q p first : ℕ) (w : ℕ → ℕ) {e u v : ℕ} {x y z : ℕ → ℕ} → e ≡ w (first + p) → u ≡ w (2 * (first + p))
    → v ≡ w (2 * (first + p) + 1)
    → StageOfFours (λ p. IsFourSplit m (w (first + p)) (w (2 * (first + p))) (w (2 * (first + p) + 1))) q p x y
    → BlockOfFours (IsFourSplit m e u v) (p * (q + q + (q + q))) q q y z
    → StageOfFours (λ p. IsFourSplit m (w (first + p)) (w (2 * (first + p))) (w (2 * (first + p) + 1))) q (p + 1) x z
stage_with m q p first w {e} {u} {v} {x} {y} {z} is_e is_u is_v before step = grind (arith, stage_of_fours_more)
