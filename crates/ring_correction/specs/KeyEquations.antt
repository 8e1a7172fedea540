-- Pairs of polynomials N, the numerator, and E, the locator, with N(x) = y·E(x) at given points x with the symbols y
-- (Welch and Berlekamp, "Error correction for algebraic block codes", US patent 4,633,470, 1986; the two pairs after
-- Kötter, "On algebraic decoding of algebraic-geometric and cyclic codes", 1996).
use Rattle.std.specs.Prelude.{◌≡◌, ℕ, suc, ◌+◌, ◌*◌, ◌<◌, ◌⊎◌}
use Rattle.num_modular.specs.Congruence.{Congruent}
use Rattle.num_modular.specs.Inverses.{HasInverse}
use Rattle.num_modular.specs.Polynomials.{polynomial_at}

-- at the first i points x the numerator with c coefficients is the symbol y times the locator with d coefficients
abbrev pub Solves : ℕ → ℕ → ℕ → ℕ → (ℕ → ℕ) → (ℕ → ℕ) → (ℕ → ℕ) → (ℕ → ℕ) → Type 0
Solves m c d i x y numerator locator = (j : ℕ) → j < i →
    Congruent m (polynomial_at c numerator (x j)) (y j * polynomial_at d locator (x j))

-- in the order 1, Y·X^0, X, Y·X^1, .. of the coefficients, those of the locator after k - 1 of the numerator, where the
-- numerator has c coefficients and the locator d: those behind number u are 0, and coefficient u has an inverse (2·l is the
-- number of the numerator's coefficient l, and 2·(l + k) - 1 that of the locator's)
pub record Leads (m k c d u : ℕ) (numerator locator : ℕ → ℕ) : Type 0 where
  pub numerator_behind : (l : ℕ) → l < c → u < 2 * l → Congruent m (numerator l) 0
  pub locator_behind : (l : ℕ) → l < d → suc u < 2 * (l + k) → Congruent m (locator l) 0
  pub unit : ((l : ℕ) × (2 * l ≡ u) × HasInverse m (numerator l))
      ⊎ ((l : ℕ) × (2 * (l + k) ≡ suc u) × HasInverse m (locator l))

-- both
pub record IsKeyPair (m k c d i u : ℕ) (x y numerator locator : ℕ → ℕ) : Type 0 where
  pub solves : Solves m c d i x y numerator locator
  pub leads : Leads m k c d u numerator locator

-- nothing is said of a pair whose number is 2·c or more, for which there is no room
abbrev pub HasKeyPair : ℕ → ℕ → ℕ → ℕ → ℕ → ℕ → (ℕ → ℕ) → (ℕ → ℕ) → (ℕ → ℕ) → (ℕ → ℕ) → Type 0
HasKeyPair m k c d i u x y numerator locator = u < 2 * c → IsKeyPair m k c d i u x y numerator locator

-- two pairs, of which the first leads with its numerator and the second with its locator, by the numbers 2·v and
-- 2·w + 1 of weights v and w
pub record AreKeyPairs (m k c d i v w : ℕ) (x y first_numerator first_locator second_numerator second_locator : ℕ → ℕ)
    : Type 0 where
  pub first : HasKeyPair m k c d i (2 * v) x y first_numerator first_locator
  pub second : HasKeyPair m k c d i (2 * w + 1) x y second_numerator second_locator

-- modulo m, q is the quotient of n by e, which has an inverse
pub record IsQuotient (m n e q : ℕ) : Type 0 where
  pub unit : HasInverse m e
  pub product : Congruent m (e * q) n

-- k of the first n points x, in their order, and the quotients of two functions of them there
pub record AreQuotients (m n k : ℕ) (x numerator locator chosen values : ℕ → ℕ) : Type 0 where
  pub place : ℕ → ℕ
  pub within : (i : ℕ) → i < k → place i < n
  pub rising : (i j : ℕ) → i < j → j < k → place i < place j
  pub chosen_there : (i : ℕ) → i < k → chosen i ≡ x (place i)
  pub quotient : (i : ℕ) → i < k → IsQuotient m (numerator (x (place i))) (locator (x (place i))) (values i)
