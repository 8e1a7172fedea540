-- Entries of a table of checks.
use Rattle.std.proofs.Common.{◌≡◌, ◌≢◌, ℕ, zero, suc, ◌+◌, ◌-◌, ◌*◌, ◌/◌, ◌%◌, ◌^◌, ◌<◌, ◌≤◌, refl, ap, sym, ◌∙◌, arith}
use Rattle.std.proofs.Common.{mod-eq_of_lt}
use Rattle.std.proofs.Math.Nat.{pow-suc}
use Rattle.std.proofs.lemmas.Nat.{mod-mul-add, div-mul-add}
use Rattle.num_modular.specs.Congruence.{Congruent}
use Rattle.num_modular.specs.NumberLaws.{mod_of_eq, mod_mul, sum_below-congruent}
use Rattle.num_modular.specs.Sums.{sum_below}
use Rattle.ring_decoder.proofs.SyndromeSums.{terms_first}
use Rattle.ring_decoder.specs.Syndromes.{AreChecks}
use Rattle.ring_codes.proofs.Congruences.{mod_of_combination, mod_of_residue, mod_times}

-- in the first row a check is the weight
pub check_first : (m h value a x : ℕ) → h ≡ 0 → value ≡ a → a < m → value ≡ (a * x ^ h) % m
check_first m h value a x first is below =
    is ∙ sym (mod-eq_of_lt below) ∙ (terms_first m a x).same ∙ ap (λ e. (a * x ^ e) % m) (sym first)

-- the place above one in a later row
pub place_above : (h n i next : ℕ) → h ≢ 0 → next ≡ h * n + i → n ≤ next
place_above zero n i next some at = absurd (some refl)
place_above (suc k) n i next some at = let one : suc k * n ≡ k * n + n = omega arith in omega (arith, at, one)

-- in each later row it is the check above it times the point
pub check_later : (m n h i next value above point : ℕ) (x v : ℕ → ℕ) → h ≢ 0 → i < n → next ≡ h * n + i
    → above ≡ (v ((next - n) % n) * x ((next - n) % n) ^ ((next - n) / n)) % m → point ≡ x i
    → value ≡ (above * point) % m → value ≡ (v i * x i ^ h) % m
check_later m n zero i next value above point x v later column at before there is = absurd (later refl)
check_later m n (suc k) i next value above point x v later column at before there is =
    let one : suc k * n ≡ k * n + n = omega arith in let left : next - n ≡ k * n + i = omega (arith, at, one) in
    let a = rw (left, mod-mul-add k n i column, div-mul-add k n i column) at before in
    is ∙ (mod_of_combination (mod_mul (mod_of_residue a) (mod_of_eq there))
    (omega (arith, ap (λ e. v i * e) (pow-suc (x i) k)))).same

-- a dot product with a row is the syndrome
pub checked_sum : (m t n h : ℕ) (x v y checks : ℕ → ℕ) → AreChecks m t n x v checks → h < t
    → Congruent m (sum_below n (λ i. y i * checks (h * n + i))) (sum_below n (λ i. v i * y i * x i ^ h))
checked_sum m t n h x v y checks table row =
    sum_below-congruent n (λ i. y i * checks (h * n + i)) (λ i. v i * y i * x i ^ h)
    (λ i l. mod_of_combination (mod_times (y i) (table.check h i row l)) (omega arith))
