-- Errors that explain syndromes (MacWilliams and Sloane, The Theory of Error-Correcting Codes, 1977, chapter 10), and the
-- places at which they are sought.
use Rattle.std.specs.Prelude.{◌≡◌, ◌≢◌, ℕ, ◌+◌, ◌-◌, ◌*◌, ◌%◌, ◌<◌, ◌≤◌, List, length, ◌==◌, if◌then◌else◌}
use Rattle.num_modular.specs.Congruence.{Congruent}
use Rattle.num_modular.specs.Inverses.{HasInverse}
use Rattle.num_modular.specs.Polynomials.{polynomial_at}
use Rattle.num_modular.specs.Sums.{sum_below}
use Rattle.ring_codes.specs.Erasure.{IsWithoutInverse}
use Rattle.ring_codes.specs.declared.erasure.errors.CorrectError.{CorrectError}
use Rattle.ring_codes.specs.declared.erasure.errors.CorrectError.TheVariants.{Restore, TooManyErrors, NoInverse}
use Rattle.ring_decoder.specs.Corrector.{without}
use Rattle.ring_decoder.specs.PowerSums.{ArePowerSums, hamming_weight}

-- how many of the errors at places that aren't lost aren't 0 modulo m
abbrev pub listed_weight : ℕ → ℕ → List ℕ → (ℕ → ℕ) → ℕ
listed_weight m n lost errors = hamming_weight m n (without lost errors)

-- errors with the t syndromes, so few that twice their number is at most t less the number of the lost places
pub record IsNearPattern (m t n : ℕ) (x v : ℕ → ℕ) (lost : List ℕ) (syndromes errors : ℕ → ℕ) : Type 0 where
  pub sums : ArePowerSums m t n x (λ i. v i * errors i) syndromes
  pub few : 2 * listed_weight m n lost errors ≤ t - length lost

-- how many of the first n numbers are 0
abbrev pub zeros : ℕ → (ℕ → ℕ) → ℕ
zeros n z = sum_below n (λ i. if z i == 0 then 1 else 0)

-- g lists in their order those f i for which z i is 0
pub record AreChosen (n : ℕ) (z f g : ℕ → ℕ) : Type 0 where
  pub at : (i : ℕ) → i < n → z i ≡ 0 → g (zeros i z) ≡ f i

-- such a list, spread over all places: 0 where z isn't
abbrev pub spread : (ℕ → ℕ) → (ℕ → ℕ) → ℕ → ℕ
spread z g i = if z i == 0 then g (zeros i z) else 0

-- z is 0 at most at t places, and at each where an error isn't
pub record Covers (m t n : ℕ) (z errors : ℕ → ℕ) : Type 0 where
  pub few : zeros n z ≤ t
  pub none : (i : ℕ) → i < n → z i ≢ 0 → Congruent m (errors i) 0

-- z are the values at the points x of a polynomial with L + 1 coefficients; ones, where L is 0
pub record AreLocatorValues (m L n : ℕ) (x s z : ℕ → ℕ) : Type 0 where
  pub none : L ≡ 0 → (i : ℕ) → i < n → z i ≡ 1 % m
  pub some : 0 < L → (i : ℕ) → i < n → z i ≡ polynomial_at (L + 1) s (x i) % m

-- z covers errors that are few, if a and the values of z that aren't 0 have inverses, or if at most one is at a place that
-- isn't lost
pub record IsLocated (m t n : ℕ) (x v : ℕ → ℕ) (lost : List ℕ) (syndromes z : ℕ → ℕ) (a : ℕ) : Type 0 where
  pub units : HasInverse m a → ((i : ℕ) → i < n → z i ≢ 0 → HasInverse m (z i))
      → (errors : ℕ → ℕ) → IsNearPattern m t n x v lost syndromes errors → Covers m t n z errors
  pub single : (errors : ℕ → ℕ) → IsNearPattern m t n x v lost syndromes errors
      → listed_weight m n lost errors ≤ 1 → Covers m t n z errors

-- the errors have the syndromes and are few; so many, `wrong`, of those at places that aren't lost aren't 0
pub record IsSolution (m t n : ℕ) (x v : ℕ → ℕ) (lost : List ℕ) (syndromes errors : ℕ → ℕ) (wrong : ℕ) : Type 0 where
  pub pattern : IsNearPattern m t n x v lost syndromes errors
  pub count : wrong ≡ listed_weight m n lost errors

-- the meaning of an error: no errors have the syndromes and are few; or a number has no inverse, and such errors are of two
-- symbols or more
abbrev pub IsPatternFault : {T : Type 0} → (T → ℕ) → ℕ → ℕ → ℕ → (ℕ → ℕ) → (ℕ → ℕ) → List ℕ → (ℕ → ℕ) → CorrectError T → Type 0
IsPatternFault number m t n x v lost syndromes (Restore e) = ⊥
IsPatternFault number m t n x v lost syndromes TooManyErrors =
    (errors : ℕ → ℕ) → IsNearPattern m t n x v lost syndromes errors → ⊥
IsPatternFault number m t n x v lost syndromes (NoInverse a) = IsWithoutInverse m (number a)
    × ((errors : ℕ → ℕ) → IsNearPattern m t n x v lost syndromes errors → 2 ≤ listed_weight m n lost errors)
