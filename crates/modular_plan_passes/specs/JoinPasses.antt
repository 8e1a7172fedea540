-- The preconditions and the results of the passes of a join: a table of factors, and entries below a multiple of m
-- (Harvey, "Faster arithmetic for number-theoretic transforms", section 3), in blocks of the tree of remainders
-- (Bernstein, "Multidigit multiplication for mathematicians", section 2). The names are the library's own words.
use Rattle.std.specs.Prelude.{◌≡◌, ℕ, ◌+◌, ◌*◌, ◌<◌, ◌≤◌, List, All, length}
use Rattle.modular_plan_passes.specs.Factors.{IsFactor, AllFactors}
use Rattle.modular_plan_passes.specs.Plans.{numbers, AreTwiddles}
use Rattle.modular_plan_passes.specs.Steps.{StageOfFours}
use Rattle.modular_plan_passes.specs.Splits.{IsPassReady}
use Rattle.modular_plan_passes.specs.Joins.{IsFourJoin}

-- the entries of a table are factors modulo m, and minus is the factor -1
pub record IsTableOfFactors {F : Type 0} (b m : ℕ) (value quotient : F → ℕ) (table : List F) (minus minus_quotient : ℕ) : Type 0 where
  pub each : AllFactors b m value quotient table
  pub minus_factor : IsFactor b m minus minus_quotient
  pub is_minus : minus + 1 ≡ m

-- before a stage over blocks of half + half entries: these are below a bound, and the table's entries are factors
-- modulo m, one for each block from index first on; minus is the factor -1
pub record IsStageReady {X F : Type 0} (number : X → ℕ) (value quotient : F → ℕ)
    (base m bound half blocks first minus minus_quotient : ℕ) (xs : List X) (table : List F) : Type 0 where
  pub entries : All (λ x. number x < bound) xs
  pub factors : IsTableOfFactors base m value quotient table minus minus_quotient
  pub whole : blocks * (half + half) ≡ length xs
  pub within : first + blocks ≤ length table
  pub some : 0 < half

-- before a pass of two stages over blocks of four times q entries: the list and the table are as before such a pass of
-- a split, and minus is the factor -1
pub record IsJoinPassReady {X F : Type 0} (number : X → ℕ) (value quotient : F → ℕ)
    (base m bound q blocks first minus minus_quotient : ℕ) (xs : List X) (table : List F) : Type 0 where
  pub pass : IsPassReady number value quotient base m bound q blocks first xs table
  pub minus_factor : IsFactor base m minus minus_quotient
  pub is_minus : minus + 1 ≡ m

-- after that pass: the entries are below a bound, and each block is joined, by the table of a root
pub record IsPassJoined {X F : Type 0} (number : X → ℕ) (value : F → ℕ) (m bound q blocks first : ℕ) (table : List F)
    (old new : List X) : Type 0 where
  pub entries : All (λ x. number x < bound) new
  pub done : (g z : ℕ) → AreTwiddles m g z (length table) (numbers value table)
      → StageOfFours (λ p. IsFourJoin m (numbers value table (first + p)) (numbers value table (2 * (first + p)))
      (numbers value table (2 * (first + p) + 1))) q blocks (numbers number old) (numbers number new)
