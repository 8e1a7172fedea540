-- Products of polynomials modulo m, by their coefficients. The names are the library's own words.
use Rattle.std.specs.Prelude.{◌≡◌, ℕ, ◌+◌, ◌-◌, ◌*◌, ◌/◌, ◌%◌, ◌<◌, ◌≤◌, List, All, slice_index}
use Rattle.num_modular.specs.Sums.{sum_below}
use Rattle.long_product.specs.Room.{HasRoomFrom}
use Rattle.long_product.specs.declared.primes.TheConstants.{FIRST_PRIME, SECOND_PRIME}
use Rattle.long_product.specs.declared.two_parts.TheConstants.{PARTS}
use Rattle.long_product.specs.declared.polynomials.TheConstants.{LEAST_TRANSFORMED}

-- coefficient e of the product of two polynomials: the sum of x i * y j over i + j = e
-- (Knuth, The Art of Computer Programming, volume 2, section 4.6)
abbrev pub product_sum : List ℕ → List ℕ → ℕ → ℕ
product_sum xs ys e = sum_below (e + 1) (λ i. slice_index xs i * slice_index ys (e - i))

-- the same modulo m
abbrev pub product_entry : ℕ → List ℕ → List ℕ → ℕ → ℕ
product_entry m xs ys e = product_sum xs ys e % m

-- coefficient e of the product modulo m and modulo X^n - c, where it has at most 2n coefficients
abbrev pub folded_entry : ℕ → ℕ → ℕ → List ℕ → List ℕ → ℕ → ℕ
folded_entry m c n xs ys e = (product_sum xs ys e + c * product_sum xs ys (e + n)) % m

-- the product of the first `count` primes, from 1 to 3, is above each coefficient of the product
pub record ArePrimesFor (count : ℕ) (xs ys : List ℕ) : Type 0 where
  pub some : 1 ≤ count
  pub most : count ≤ 3
  pub one : count ≡ 1 → (e : ℕ) → product_sum xs ys e < FIRST_PRIME
  pub two : count ≡ 2 → (e : ℕ) → product_sum xs ys e < FIRST_PRIME * SECOND_PRIME

-- the products of n terms are below the first prime: of coefficients ys with low parts of xs, and with high parts
pub record FitParts (n : ℕ) (xs ys : List ℕ) : Type 0 where
  pub x : ℕ
  pub y : ℕ
  pub left : All (λ v. v ≤ x) xs
  pub right : All (λ v. v ≤ y) ys
  pub low : n * ((PARTS - 1) * y) < FIRST_PRIME
  pub high : n * (x / PARTS * y) < FIRST_PRIME

-- m is a modulus, and a list has one place for each coefficient of the product of polynomials with so many: one fewer
-- than both have together, and none where one has none
pub record FitsProduct (m xs ys places : ℕ) : Type 0 where
  pub modulus : 1 ≤ m
  pub some : 1 ≤ xs → 1 ≤ ys → places + 1 ≡ xs + ys
  pub none_left : xs ≡ 0 → places ≡ 0
  pub none_right : ys ≡ 0 → places ≡ 0

-- m is a modulus, and both factors of a cyclic product and the product have equally many entries
pub record FitsCyclic (m xs ys places : ℕ) : Type 0 where
  pub modulus : 1 ≤ m
  pub left : xs ≡ places
  pub right : ys ≡ places

-- m is a modulus, and there are no more places than coefficients of the product modulo X^n - c, n being the places
pub record FitsFold (m c xs ys n : ℕ) : Type 0 where
  pub modulus : 1 ≤ m
  pub places : n ≤ xs + ys
  pub past : 0 < c → 2 * n ≤ xs + ys

-- there is room for the product of polynomials with so many coefficients
abbrev pub HasProductRoom : ℕ → ℕ → ℕ → ℕ → Type 0
HasProductRoom xs ys words table = HasRoomFrom LEAST_TRANSFORMED xs ys (xs + ys) words table
