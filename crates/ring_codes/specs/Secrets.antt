-- Perfect secrecy of Shamir's scheme (Shamir, "How to share a secret", Communications of the ACM 22, 1979).
use Rattle.std.specs.Prelude.{◌≡◌, ℕ, ◌-◌, ◌<◌}
use Rattle.ring_codes.specs.Erasure.{IsEncoding}

-- k coefficients below m, of which the constant is the secret, and whose polynomial has the first k - 1 shares at the
-- first k - 1 points
pub record FitsShares (m k secret : ℕ) (points shares coefficients : ℕ → ℕ) : Type 0 where
  pub below : (i : ℕ) → i < k → coefficients i < m
  pub constant : coefficients 0 ≡ secret
  pub encoding : IsEncoding m k (k - 1) points coefficients shares

-- any k - 1 shares and any secret, all below m, fit exactly one list of k coefficients
abbrev pub IsPerfectlySecret : ℕ → ℕ → (ℕ → ℕ) → Type 0
IsPerfectlySecret m k points = (secret : ℕ) (shares : ℕ → ℕ) → secret < m → ((i : ℕ) → i < k - 1 → shares i < m)
    → (coefficients : ℕ → ℕ) × FitsShares m k secret points shares coefficients
    × ((other : ℕ → ℕ) → FitsShares m k secret points shares other → (i : ℕ) → i < k → other i ≡ coefficients i)
