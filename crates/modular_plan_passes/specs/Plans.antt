-- Tables of twiddle factors, and remainders of polynomials (Fiduccia, "Polynomial evaluation via the division algorithm";
-- Bernstein, "Multidigit multiplication for mathematicians", section 2, for the tree of X^n - 1). The names are the
-- library's own words.
use Rattle.std.specs.Prelude.{◌≡◌, ℕ, ◌+◌, ◌-◌, ◌*◌, ◌/◌, ◌%◌, ◌^◌, ◌<◌, List, map, slice_index}
use Rattle.modular_word.specs.Sums.{sum_below}
use Rattle.modular_transform.specs.Orders.{bits_reversed}
use Rattle.modular_transform.specs.Transforms.{Suits}

-- the numbers of a list of words, by their indexes
abbrev pub numbers : {T : Type 0} → (T → ℕ) → List T → ℕ → ℕ
numbers number words i = slice_index (map number words) i

-- the count numbers w are the twiddle factors of g for 2^z entries: the first half of the powers of g, in bit-reversed
-- order
pub record AreTwiddles (m g z count : ℕ) (w : ℕ → ℕ) : Type 0 where
  pub suits : Suits m g (2 ^ z)
  pub half : count ≡ 2 ^ z / 2
  pub entry : (k : ℕ) → k < count → w k ≡ g ^ bits_reversed (z - 1) k % m

-- the constant c of block j in the tree: the remainder of a polynomial modulo X^h - c splits into its remainders
-- modulo X^(h/2) - c' and X^(h/2) - c'', with the constants c' and c'' of the blocks 2 * j and 2 * j + 1
abbrev pub constant : ℕ → ℕ → ℕ → ℕ
constant g z j = g ^ bits_reversed z j

-- coefficient i of the remainder modulo X^last - c of the polynomial
-- with the coefficients x, of which there are count * last
abbrev pub remainder : ℕ → (ℕ → ℕ) → ℕ → ℕ → ℕ → ℕ → ℕ
remainder m x count last c i = sum_below count (λ k. x (k * last + i) * c ^ k) % m

-- the remainders in a list: from index j * last on, those modulo X^last - c of block b * count + j
pub record AreRemainders (m g z b count last : ℕ) (x y : ℕ → ℕ) : Type 0 where
  pub each : (j i : ℕ) → j < count → i < last
      → y (j * last + i) ≡ remainder m x count last (constant g z (b * count + j)) i
