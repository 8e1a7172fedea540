-- Bounds on lengths, counts and weights, over plain numbers.
use Rattle.ring_codes.proofs.Names.{◌≡◌, ◌%◌, ◌≤◌, ℕ, arith, HaveUnitDifferences}

pub zero_mod : (m : ℕ) → 0 % m ≡ 0
zero_mod m = omega arith

-- the first points fit where all do
pub fit_front : (m n k : ℕ) (x : ℕ → ℕ) → k ≤ n → HaveUnitDifferences m n x → HaveUnitDifferences m k x
fit_front m n k x within fit = record { unit = λ i j a b other. fit.unit i j (omega arith) (omega arith) other }
