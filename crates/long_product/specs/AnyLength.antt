-- Transforms of any length. The names are the library's own words.
use Rattle.std.specs.Prelude.{◌≡◌, ℕ, ◌-◌, ◌*◌, ◌%◌, ◌^◌, ◌<◌, ◌≤◌}
use Rattle.num_modular.specs.Inverses.{HasInverse}
use Rattle.num_modular.specs.Roots.{root_by}
use Rattle.num_modular.specs.Sums.{sum_below}
use Rattle.long_product.specs.Polynomials.{HasProductRoom}
use Rattle.long_product.specs.declared.any_length.TheConstants.{LEAST_CONVOLVED}

-- g is a root of unity of order n modulo m: g^n is 1, and g^d - 1 has an inverse for each d from 1 to n - 1
-- (von zur Gathen and Gerhard, Modern Computer Algebra, section 8.2, with lemma 8.7 for all d; modulo m a number has an
-- inverse exactly where it is no zero divisor)
pub record IsRootOfOrder (m g n : ℕ) : Type 0 where
  pub some : 1 ≤ n
  pub whole_turn : g ^ n % m ≡ 1 % m
  pub no_shorter : (d : ℕ) → 1 ≤ d → d < n → HasInverse m (g ^ d - 1)

-- x is the least number that is at least 2 and gives a root of order n
pub record IsFirstBaseOfOrder (m n x : ℕ) : Type 0 where
  pub from : 2 ≤ x
  pub root : IsRootOfOrder m (root_by m n x) n
  pub least : (y : ℕ) → 2 ≤ y → y < x → IsRootOfOrder m (root_by m n y) n → ⊥

-- the binomial coefficient n over 2: the sum of the numbers below n (Graham, Knuth and Patashnik, "Concrete
-- Mathematics", section 5.1)
abbrev pub choose_two : ℕ → ℕ
choose_two n = sum_below n (λ i. i)

-- part times the sum of x i * g^(i * j) over the n values x, modulo m
abbrev pub scaled_transform : ℕ → ℕ → ℕ → ℕ → (ℕ → ℕ) → ℕ → ℕ
scaled_transform m part g n x j = (part * sum_below n (λ i. x i * g ^ (i * j))) % m

-- there is room for a transform of n entries: from a least length on, 6 * n words, and as many more as the product of
-- polynomials with n and 2 * n - 1 coefficients takes
abbrev pub HasTransformRoom : ℕ → ℕ → ℕ → Type 0
HasTransformRoom n words table =
    LEAST_CONVOLVED ≤ n → (6 * n ≤ words) × HasProductRoom n (2 * n - 1) (words - 6 * n) table

-- m is a modulus, n entries are transformed into as many places, and there is room
pub record FitsTransform (m n places words table : ℕ) : Type 0 where
  pub modulus : 1 ≤ m
  pub equal : places ≡ n
  pub room : HasTransformRoom n words table
