-- Places of lost symbols: the points there, and lists that change there alone.
use Rattle.std.proofs.Common.{◌≡◌, ℕ, ◌+◌, ◌<◌, List, length, slice_index, arith}
use Rattle.std.proofs.Math.ListN.{set}
use Rattle.std.proofs.lemmas.Bool.{cases_eq, cases_lt}
use Rattle.num_modular.specs.Callers.{entry, entry_written, entry_kept}
use Rattle.num_modular.specs.Polynomials.{HaveUnitDifferences}
use Rattle.ring_codes.specs.Erasure.{ArePlaces}
use Rattle.ring_erasures.specs.Erasures.{AreErased, IsScattered}

-- the points at the lost places fit
pub lost_points_fit : (m k n : ℕ) (x : ℕ → ℕ) (lost : List ℕ) → AreErased k n lost → HaveUnitDifferences m n x
    → HaveUnitDifferences m (length lost) (λ l. x (slice_index lost l))
lost_points_fit m k n x lost erased fit = grind (arith, cases_lt)

pub scattered_none : (lost : List ℕ) (v old : ℕ → ℕ) → IsScattered 0 lost v old old
scattered_none lost v old = grind arith

-- the places that were written are among k distinct ones
pub scattered_more : {T : Type 0} (number : T → ℕ) (value : ℕ → ℕ → ℕ) (m c k : ℕ) (lost : List ℕ) (v old : ℕ → ℕ)
    (list : List T) (a : T) → ArePlaces k (length list) lost → c < k
    → IsScattered c lost v old (entry number value m list) → value m (number a) ≡ v c
    → IsScattered (c + 1) lost v old (entry number value m (set list (slice_index lost c) a))
scattered_more number value m c k lost v old list a places within before is =
    grind (arith, cases_eq, entry_written, entry_kept)
