use Rattle.std.proofs.Common.{◌≡◌, ◌↔◌, ℕ, ◌%◌, ◌<◌, get_or}
use Rattle.check_digits.proofs.iban.is_grouped.Given as goal

-- the spaces so far are between groups
abbrev pub invariant-places : goal.invariant-places
invariant-places l = (i : ℕ) → i < l.place → (get_or l.text i 0 ≡ 32) ↔ (i % 5 ≡ 4)
