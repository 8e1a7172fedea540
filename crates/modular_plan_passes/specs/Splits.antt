-- The preconditions and the results of the passes of a split: two stages in one pass, that is radix 4 (Van Loan,
-- Computational Frameworks for the Fast Fourier Transform, chapter 2), with one factor for each block (Bernstein,
-- "Multidigit multiplication for mathematicians", section 2) and entries below a multiple of m (Harvey, "Faster
-- arithmetic for number-theoretic transforms", section 3). The names are the library's own words.
use Rattle.std.specs.Prelude.{◌≡◌, ℕ, ◌+◌, ◌*◌, ◌<◌, ◌≤◌, List, All, length}
use Rattle.modular_plan_passes.specs.Factors.{IsFactor, AllFactors}
use Rattle.modular_plan_passes.specs.declared.factor.Factor.{Factor}
use Rattle.modular_plan_passes.specs.Plans.{numbers}
use Rattle.modular_plan_passes.specs.Steps.{IsFourSplit, StageOfFours}

-- four numbers are below a bound
pub record AreFourBelow (bound a b c d : ℕ) : Type 0 where
  pub first : a < bound
  pub second : b < bound
  pub third : c < bound
  pub fourth : d < bound

-- four indexes are in ascending order, and below n
pub record AreInOrder (i j k l n : ℕ) : Type 0 where
  pub first : i < j
  pub second : j < k
  pub third : k < l
  pub last : l < n

-- w is the factor of a block modulo m, and u and v are those of its halves; p, q and r are their quotients
pub record AreFactors (base m w p u q v r : ℕ) : Type 0 where
  pub whole : IsFactor base m w p
  pub low : IsFactor base m u q
  pub high : IsFactor base m v r

-- the same of three `Factor`s
abbrev pub AreFactorsOf : {T D : Type 0} → ℕ → (T → ℕ) → ℕ → Factor T D → Factor T D → Factor T D → Type 0
AreFactorsOf base number m w u v = AreFactors base m (number w.value) (number w.quotient)
    (number u.value) (number u.quotient) (number v.value) (number v.quotient)

-- a, b, c and d are the entries x at four indexes
pub record AreAt (i j k l : ℕ) (x : ℕ → ℕ) (a b c d : ℕ) : Type 0 where
  pub first : a ≡ x i
  pub second : b ≡ x j
  pub third : c ≡ x k
  pub fourth : d ≡ x l

-- R holds of four numbers before and after, and those after are below a bound
pub record FourDoneWithin (bound : ℕ) (R : ℕ → ℕ → ℕ → ℕ → ℕ → ℕ → ℕ → ℕ → Type 0) (a b c d a' b' c' d' : ℕ) : Type 0 where
  pub below : AreFourBelow bound a' b' c' d'
  pub done : R a b c d a' b' c' d'

-- four quarters of equal length, all of whose entries are below a bound that is at most the limit
pub record AreQuarters {X : Type 0} (number : X → ℕ) (bound limit : ℕ) (a b c d : List X) : Type 0 where
  pub first : All (λ x. number x < bound) a
  pub second : All (λ x. number x < bound) b
  pub third : All (λ x. number x < bound) c
  pub fourth : All (λ x. number x < bound) d
  pub second_length : length b ≡ length a
  pub third_length : length c ≡ length a
  pub fourth_length : length d ≡ length a
  pub fits : bound ≤ limit

-- the first columns are done, and the others are unchanged
pub record ColumnsDone (R : ℕ → ℕ → ℕ → ℕ → ℕ → ℕ → ℕ → ℕ → Type 0) (done : ℕ) (a b c d a' b' c' d' : ℕ → ℕ) : Type 0 where
  pub columns : (k : ℕ) → k < done → R (a k) (b k) (c k) (d k) (a' k) (b' k) (c' k) (d' k)
  pub kept : (k : ℕ) → done ≤ k → (a' k ≡ a k) × (b' k ≡ b k) × (c' k ≡ c k) × (d' k ≡ d k)

-- two halves of q + q entries each, all below a bound that is at most the limit
pub record AreHalves {X : Type 0} (number : X → ℕ) (bound limit q : ℕ) (xs ys : List X) : Type 0 where
  pub low : All (λ x. number x < bound) xs
  pub high : All (λ x. number x < bound) ys
  pub low_length : length xs ≡ q + q
  pub high_length : length ys ≡ q + q
  pub fits : bound ≤ limit

-- a block of four times q entries from index first on; the list's entries are below a bound that is at most the limit
pub record IsBlockReady {X : Type 0} (number : X → ℕ) (bound limit first q : ℕ) (xs : List X) : Type 0 where
  pub entries : All (λ x. number x < bound) xs
  pub within : first + (q + q + (q + q)) ≤ length xs
  pub fits : bound ≤ limit

-- four entries from index first on, below a bound
pub record AreNeighbours {X : Type 0} (number : X → ℕ) (bound first : ℕ) (xs : List X) : Type 0 where
  pub below : AreFourBelow bound (numbers number xs first) (numbers number xs (first + 1)) (numbers number xs (first + 2))
      (numbers number xs (first + 3))
  pub within : first + 3 < length xs

-- all columns of a block are done; x and y are its halves
pub record HalvesDone (R : ℕ → ℕ → ℕ → ℕ → ℕ → ℕ → ℕ → ℕ → Type 0) (q : ℕ) (x y x' y' : ℕ → ℕ) : Type 0 where
  pub columns : (i : ℕ) → i < q → R (x i) (x (q + i)) (y i) (y (q + i)) (x' i) (x' (q + i)) (y' i) (y' (q + i))

-- before a pass of two stages over blocks of four times q entries: the entries are below the bound, and the table's
-- entries are factors modulo m, one for each block from index first on, and two for its halves at twice that index
pub record IsPassReady {X F : Type 0} (number : X → ℕ) (value quotient : F → ℕ) (base m bound q blocks first : ℕ) (xs : List X) (table : List F) : Type 0 where
  pub entries : All (λ x. number x < bound) xs
  pub factors : AllFactors base m value quotient table
  pub whole : blocks * (q + q + (q + q)) ≡ length xs
  pub within : 2 * (first + blocks) ≤ length table
  pub some : 0 < q

-- after that pass: the entries are below a bound, and each block is split
pub record IsPassDone {X F : Type 0} (number : X → ℕ) (value : F → ℕ) (m bound q blocks first : ℕ) (table : List F) (old new : List X) : Type 0 where
  pub entries : All (λ x. number x < bound) new
  pub done : StageOfFours (λ p. IsFourSplit m (numbers value table (first + p)) (numbers value table (2 * (first + p)))
      (numbers value table (2 * (first + p) + 1))) q blocks (numbers number old) (numbers number new)
