-- The transform of n values modulo m, and their cyclic product, as sums of whole numbers.
use Rattle.std.specs.Prelude.{◌≡◌, ℕ, ◌+◌, ◌*◌, ◌/◌, ◌%◌, ◌^◌, ◌<◌, ◌==◌, ◌||◌, if◌then◌else◌}
use Rattle.std.specs.Int.{IsPowerOfTwo}
use Rattle.modular_word.specs.Sums.{sum_below}

-- g suits n values: n is a power of two, and for n above 1 g^(n/2) is -1 modulo m. For odd m above 1 and n above 1,
-- g is then a primitive n-th root of unity (von zur Gathen and Gerhard, Modern Computer Algebra, section 8.2).
pub record Suits (m g n : ℕ) : Type 0 where
  pub power_of_two : IsPowerOfTwo n
  pub half_turn : 1 < n → (g ^ (n / 2) + 1) % m ≡ 0

-- entry j of the transform by g of the n values x: the sum of x i * g^(i * j)
-- (Pollard, "The fast Fourier transform in a finite field", section 2)
abbrev pub transform : ℕ → ℕ → ℕ → (ℕ → ℕ) → ℕ → ℕ
transform m g n x j = sum_below n (λ i. x i * g ^ (i * j)) % m

-- entry e of the cyclic product of the n values x and the n values y: the sum of x i * y j over i + j = e or e + n
-- (Knuth, The Art of Computer Programming, volume 2, section 4.3.3, part C)
abbrev pub cyclic_product : ℕ → ℕ → (ℕ → ℕ) → (ℕ → ℕ) → ℕ → ℕ
cyclic_product m n x y e =
    sum_below n (λ i. sum_below n (λ j. if (i + j == e) || (i + j == e + n) then x i * y j else 0)) % m
