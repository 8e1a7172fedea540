-- What the stages of a split and of a join rest on and give: a table of factors, and entries below a multiple of m
-- (Harvey, "Faster arithmetic for number-theoretic transforms", section 3), in blocks of the tree of remainders
-- (Bernstein, "Multidigit multiplication for mathematicians", section 2). The names are the library's own words.
use Rattle.std.specs.Prelude.{◌≡◌, ℕ, ◌+◌, ◌*◌, ◌/◌, ◌%◌, ◌<◌, ◌≤◌, List, All, length}
use Rattle.std.specs.Int.{IsPowerOfTwo}
use Rattle.modular_plan_passes.specs.Factors.{AllFactors}
use Rattle.modular_plan_passes.specs.Plans.{numbers, AreTwiddles, AreRemainders}
use Rattle.modular_plan_passes.specs.JoinPasses.{IsTableOfFactors}

-- a list of this length consists of blocks of `last` entries, a power of two of them, and a table of so many
-- entries has the factors of the tree below block b
pub record AreBlocks (length entries b last : ℕ) : Type 0 where
  pub some : 1 ≤ last
  pub count : IsPowerOfTwo (length / last)
  pub whole : length / last * last ≡ length
  pub within : (b + 1) * (length / last / 2) ≤ entries

-- before a split of block b into blocks of `last` words, and before a join of these blocks: the words are below 4m, the
-- table's entries are factors modulo m with their quotients, and both have fitting lengths
pub record FitsPlan {X F : Type 0} (number : X → ℕ) (value quotient : F → ℕ) (base m b last : ℕ) (words : List X)
    (table : List F) : Type 0 where
  pub entries : All (λ x. number x < 4 * m) words
  pub factors : AllFactors base m value quotient table
  pub blocks : AreBlocks (length words) (length table) b last

-- before the stages from blocks of `last` entries on: the entries are below a bound
pub record IsLevelReady {X F : Type 0} (number : X → ℕ) (value quotient : F → ℕ)
    (base m bound b last minus minus_quotient : ℕ) (xs : List X) (table : List F) : Type 0 where
  pub entries : All (λ x. number x < bound) xs
  pub factors : IsTableOfFactors base m value quotient table minus minus_quotient
  pub blocks : AreBlocks (length xs) (length table) b last

-- after some of these stages, up to blocks of `next` entries: where the entries were the remainders of a list, they are
-- those of a multiple of it
pub record IsLevelJoined {X F : Type 0} (number : X → ℕ) (value : F → ℕ) (m bound b last next : ℕ) (table : List F)
    (old new : List X) : Type 0 where
  pub scale : ℕ
  pub entries : All (λ x. number x < bound) new
  pub blocks : AreBlocks (length old) (length table) b next
  pub times : scale * (length old / next) ≡ length old / last
  pub joined : (g z : ℕ) (x : ℕ → ℕ) → AreTwiddles m g z (length table) (numbers value table)
      → AreRemainders m g z b (length old / last) last x (λ i. numbers number old i % m)
      → AreRemainders m g z b (length old / next) next (λ k. scale * x k) (λ i. numbers number new i % m)
