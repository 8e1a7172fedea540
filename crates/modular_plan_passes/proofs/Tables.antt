-- The length of a table.
use Rattle.std.proofs.Common.{◌≡◌, ℕ, suc, zero, ◌-◌, ◌*◌, ◌/◌, ◌^◌, refl, ap, arith}
use Rattle.std.proofs.Math.Nat.{two-pow-succ}
use Rattle.std.proofs.lemmas.Nat.{pow_pos}
use Rattle.std.specs.Int.{IsPowerOfTwo}

-- one power of two has one exponent
pow2_injective : (a b : ℕ) → 2 ^ a ≡ 2 ^ b → a ≡ b
pow2_injective zero zero e = refl
pow2_injective zero (suc b) e = let two = two-pow-succ b in let p = pow_pos b in
    let one : 2 ^ 0 ≡ 1 = refl in absurd (omega (arith, e, two, p, one))
pow2_injective (suc a) zero e = let two = two-pow-succ a in let p = pow_pos a in
    let one : 2 ^ 0 ≡ 1 = refl in absurd (omega (arith, e, two, p, one))
pow2_injective (suc a) (suc b) e =
    ap (λ n. suc n) (pow2_injective a b (omega (arith, e, two-pow-succ a, two-pow-succ b)))

-- half of a power of two that is even
halved_power_is_power : (z n : ℕ) → 2 * n ≡ 2 ^ z → IsPowerOfTwo n
halved_power_is_power zero n e = let one : 2 ^ 0 ≡ 1 = refl in absurd (omega (arith, e, one))
halved_power_is_power (suc z) n e = let two = two-pow-succ z in (z, omega (arith, e, two))

pub half_is_power_of_two : {n : ℕ} → IsPowerOfTwo (2 * n) → IsPowerOfTwo n
half_is_power_of_two {n} p = halved_power_is_power p.0 n p.1

-- the exponent of the length of a table
pub half_has_previous_exponent : (z n bits : ℕ) → 2 ^ z ≡ 2 * n → n ≡ 2 ^ bits → (bits ≡ z - 1) × (n ≡ 2 ^ z / 2)
half_has_previous_exponent z n bits e whole =
    let same : 2 ^ z ≡ 2 ^ suc bits = omega (arith, e, whole) in
    let z_is : z ≡ suc bits = pow2_injective z (suc bits) same in
    (omega arith, omega (arith, e))
