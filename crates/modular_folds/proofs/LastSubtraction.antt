-- The last subtraction of m from a number below 2m, where the borrow of the difference is a mask.
use Rattle.std.proofs.Common.{◌≡◌, ℕ, ◌+◌, ◌-◌, ◌*◌, ◌%◌, ◌^◌, ◌<◌, ◌≤◌, bit_and, ◌∙◌, arith, ⊎_elim}
use Rattle.std.proofs.Math.Nat.{mod-eq_of_lt}
use Rattle.std.proofs.lemmas.Nat.{and_comm, and_mask}
use Rattle.std.proofs.lemmas.Bool.{cases_lt}
use Rattle.modular_folds.proofs.FoldBounds.{once_below, once_above}

-- where there is a borrow, the number itself
residue_if_borrowed : (v m low high : ℕ) → v < m → m < 2 ^ 32 → (v + (2 ^ 64 - m)) % 2 ^ 64 ≡ low + 2 ^ 32 * high
    → low < 2 ^ 32 → high < 2 ^ 32 → (low + bit_and high m) % 2 ^ 32 ≡ v
residue_if_borrowed v m low high less fits parts low_fits high_fits =
    grind (arith, and_comm (2 ^ 32 - 1) m, and_mask m 32, mod-eq_of_lt fits)

-- and else the difference
not_borrowed : (v m low high : ℕ) → m ≤ v → v < 2 * m → m < 2 ^ 32 → (v + (2 ^ 64 - m)) % 2 ^ 64 ≡ low + 2 ^ 32 * high
    → low < 2 ^ 32 → (low + bit_and high m) % 2 ^ 32 + m ≡ v
not_borrowed v m low high more twice fits parts low_fits = grind arith

-- in both cases the residue
pub masked_residue : (v m low high : ℕ) → v < 2 * m → m < 2 ^ 32 → (v + (2 ^ 64 - m)) % 2 ^ 64 ≡ low + 2 ^ 32 * high
    → low < 2 ^ 32 → high < 2 ^ 32 → (low + bit_and high m) % 2 ^ 32 ≡ v % m
masked_residue v m low high twice fits parts low_fits high_fits =
    ⊎_elim (λ (less : v < m). residue_if_borrowed _ _ _ _ less fits parts low_fits high_fits ∙ once_below _ _ less)
    (λ (more : m ≤ v). (once_above m v _ more twice (not_borrowed v m low high more twice fits parts low_fits)).0)
    (cases_lt v m)
