-- What one call undoes of another.
use Rattle.std.proofs.Common.{◌≡◌, ℕ, pos, ◌+◌, ◌*◌, ◌%◌, ◌<◌, ◌-ℤ◌, ap, sym, ◌∙◌, arith}
use Rattle.std.proofs.Math.Nat.{mod-eq_of_lt}
use Rattle.std.proofs.lemmas.Nat.{mul-mod_first, mul-mod_second}
use Rattle.modular_word.specs.Inverses.{IsInverse}
use Rattle.modular_word.specs.Residues.{residue}
use Rattle.modular_word.proofs.LinearCongruences.{inverse_solves_congruence}
use Rattle.modular_word.proofs.ResidueLemmas.{difference_and}

-- the quotient times its divisor
pub quotient_times : (m a b x : ℕ) → IsInverse m b x → ((a * x) % m * b) % m ≡ a % m
quotient_times m a b x h =
    let r : a * x * b ≡ b * (a * x) = omega arith in
    mul-mod_first (a * x) b m ∙ ap (λ v. v % m) r ∙ sym (mul-mod_second b (a * x) m)
    ∙ inverse_solves_congruence m b a x h

-- .. of numbers below m
pub quotient_times_below : (m a b x : ℕ) → IsInverse m b x → a < m → ((a * x) % m * b) % m ≡ a
quotient_times_below m a b x h l = quotient_times m a b x h ∙ mod-eq_of_lt l

-- the difference and what was taken away
pub difference_plus_subtrahend_is_minuend : (m a b : ℕ) → a < m → (residue m (pos a -ℤ pos b) + b) % m ≡ a
difference_plus_subtrahend_is_minuend m a b l = difference_and m a b (omega arith) ∙ mod-eq_of_lt l
