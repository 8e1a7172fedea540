-- The first entries of a table are the table for fewer entries.
use Rattle.std.proofs.Common.{◌≡◌, ℕ, suc, zero, ◌+◌, ◌-◌, ◌*◌, ◌/◌, ◌%◌, ◌^◌, ◌<◌, refl, arith, subst}
use Rattle.std.proofs.Math.Nat.{two-pow-succ, pow-le-pow_right}
use Rattle.std.proofs.lemmas.Nat.{pow-add, pow-mod}
use Rattle.modular_word.proofs.Powers.{pow-mul}
use Rattle.modular_transform.specs.Orders.{bits_reversed}
use Rattle.modular_transform.specs.Transforms.{Suits}
use Rattle.modular_transform.proofs.BitReversal.{bits_reversed_of_zero, bits_reversed_of_parts}
use Rattle.modular_transform.proofs.InverseTransform.{power_suits}
use Rattle.modular_plan_passes.specs.Plans.{AreTwiddles}

-- of a place below 2^t, d bits more reverse to d zeros below
more_bits : (t d k : ℕ) → k < 2 ^ t → bits_reversed (t + d) k ≡ 2 ^ d * bits_reversed t k
more_bits t d k below = grind (arith, bits_reversed_of_parts t d k 0 below, bits_reversed_of_zero d)

-- an entry below half of 2^y, in both tables
same_entry : (m g y d count k : ℕ) (w : ℕ → ℕ) → AreTwiddles m g (y + d) count w → k < 2 ^ y / 2
    → w k ≡ (g ^ (2 ^ d) % m) ^ bits_reversed (y - 1) k % m
same_entry m g zero d count k w twiddles l = grind arith
same_entry m g (suc t) d count k w twiddles l =
    let below : k < 2 ^ t = omega (arith, two-pow-succ t, l) in
    let power : 2 ^ (suc t + d) ≡ 2 * 2 ^ (t + d) = grind (arith, two-pow-succ (t + d)) in
    let most = pow-le-pow_right {n = 2} (omega arith) {i = t} {j = t + d} (omega arith) in
    let within : k < count = omega (arith, below, twiddles.half, power, most) in
    let r = bits_reversed t k in
    grind (arith, twiddles.entry k within, more_bits t d k below, pow-mul g (2 ^ d) r, pow-mod (g ^ (2 ^ d)) r m)

-- the first twiddle factors for 2^(y + d) are those for 2^y, of the power of the root that suits these
pub first_entries : {m g count : ℕ} {w : ℕ → ℕ} (y d : ℕ) → AreTwiddles m g (y + d) count w
    → AreTwiddles m (g ^ (2 ^ d) % m) y (2 ^ y / 2) w
first_entries {m} {g} {count} {w} y d twiddles = record {
  suits = power_suits (2 ^ d) (2 ^ y) (y, refl) (subst (Suits m g) (pow-add 2 y d) twiddles.suits);
  half = refl;
  entry = λ k l. same_entry m g y d count k w twiddles l;
}
