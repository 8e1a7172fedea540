-- The precondition of a product of blocks in the tree of remainders (Bernstein, "Multidigit multiplication for
-- mathematicians", section 2). The names are the library's own words.
use Rattle.std.specs.Prelude.{◌≡◌, ℕ, ◌+◌, ◌*◌, ◌/◌, ◌≤◌}
use Rattle.std.specs.Int.{IsPowerOfTwo}

-- a list of this length consists of blocks of one or two entries, and a table has the factors for their products
pub record AreSmallBlocks (length entries b last : ℕ) : Type 0 where
  pub some : 1 ≤ last
  pub few : last ≤ 2
  pub count : IsPowerOfTwo (length / last)
  pub whole : length / last * last ≡ length
  pub within : (b + 1) * (length / last) ≤ 2 * entries
