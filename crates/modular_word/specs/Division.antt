-- Division of whole numbers (Euclid, Elements, book VII).
use Rattle.std.specs.Prelude.{◌≡◌, ◌≢◌, ℕ, ◌+◌, ◌*◌, ◌<◌, Option, MatchOption}

-- q and r are the quotient and the remainder of a by d
pub record IsDivision (a d q r : ℕ) : Type 0 where
  pub whole : a ≡ q * d + r
  pub below : r < d

-- the result of an exact division of n by d: the quotient; `None` exactly where d doesn't divide n
abbrev pub IsExactQuotient : {Q : Type 0} → (Q → ℕ) → ℕ → ℕ → Option Q → Type 0
IsExactQuotient number n d found = MatchOption found ((k : ℕ) → k * d ≢ n) (λ q. number q * d ≡ n)
