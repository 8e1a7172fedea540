-- The power of two in a number, and the odd number that is left.
use Rattle.std.proofs.Common.{◌≡◌, ℕ, zero, suc, ◌*◌, ◌/◌, ◌%◌, ◌^◌, ◌<◌, ap, arith, refl}
use Rattle.std.proofs.Math.Nat.{pow-suc, div-div-eq-div-mul, div-one, mod-one, mod-lt}
use Rattle.std.specs.Int.Count.{count_trailing_zeros}
use lib.Count.{under}
use Rattle.modular_monty.specs.Montgomery.{IsOddRing}
use Rattle.modular_monty.specs.TwoParts.{two_part_form, IsTwoPartRing}

-- m, a number of w bits, is k * 2^s with an odd k
pub record IsParted (w m s k : ℕ) : Type 0 where
  pub few : s < w
  pub whole : k * 2 ^ s ≡ m
  pub odd : k % 2 ≡ 1

-- one bit more, r being the lowest
parted_step : (w m t r : ℕ) → m % 2 ≡ r → r < 2 → 0 < m → m < 2 ^ suc w
    → (0 < m / 2 → m / 2 < 2 ^ w → IsParted w (m / 2) t (m / 2 / 2 ^ t))
    → IsParted (suc w) m (under r t) (m / 2 ^ under r t)
parted_step w m t zero e l h k half = grind (arith, pow-suc, div-div-eq-div-mul)
parted_step w m t (suc zero) e l h k half = omega arith
parted_step w m t (suc (suc r)) e l h k half = absurd (omega arith)

-- the trailing zeros are the exponent
pub parted_at : (w m : ℕ) → 0 < m → m < 2 ^ w
    → IsParted w m (count_trailing_zeros w m) (m / 2 ^ count_trailing_zeros w m)
unfolding count_trailing_zeros
parted_at zero m h k = absurd (omega arith)
parted_at (suc w) m h k =
    parted_step w m (count_trailing_zeros w (m / 2)) (m % 2) refl (mod-lt m (omega arith)) h k (parted_at w (m / 2))

-- so they are the parts of a number below the base b, h being what a shift leaves of it
pub parted_of : (w b m s h : ℕ) → b ≡ 2 ^ w → 0 < m → m < b → s ≡ count_trailing_zeros w m
    → h ≡ m / 2 ^ s → IsParted w m s h
parted_of w b m s h eb some fits es eh = grind (arith, parted_at)

-- and with what is kept of k, which is h, they are what is kept of the number
pub two_part_ring : {w b m s h k i square : ℕ} → IsOddRing w b k i square → IsParted w m s h → m < b
    → s ≡ count_trailing_zeros w m → k ≡ h
    → IsTwoPartRing w b (k * 2 ^ s) s k i square
two_part_ring {w} {b} {m} {s} {h} {k} r parted fits es ek = grind arith

-- an odd number has none
odd_has_no_trailing_zeros : (w m : ℕ) → 0 < w → m % 2 ≡ 1 → count_trailing_zeros w m ≡ 0
unfolding count_trailing_zeros
odd_has_no_trailing_zeros zero m h e = absurd (omega arith)
odd_has_no_trailing_zeros (suc w) m h e = ap (λ r. under r (count_trailing_zeros w (m / 2))) e

-- so the form of v modulo an odd m is v times the base
pub odd_form : (w m v : ℕ) → 0 < w → m % 2 ≡ 1 → two_part_form w m v ≡ (v * 2 ^ w) % m
unfolding two_part_form
odd_form w m v h e = grind (arith, odd_has_no_trailing_zeros, div-one, mod-one)
