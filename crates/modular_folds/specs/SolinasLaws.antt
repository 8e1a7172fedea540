-- Laws of a modulus 2^p1 - 2^p2 + k whose parameters are in range: proofs that the impls declare. The names are the
-- library's own words.
use Rattle.std.proofs.Common.{◌≡◌, ℕ, suc, ◌+◌, ◌*◌, ◌%◌, ◌^◌, ◌<◌, ◌≤◌, ℤ, pos}
use Rattle.std.proofs.Common.{negsuc, ◌+ℤ◌, ◌-ℤ◌, ◌<ℤ◌, nat_abs, arith, lit<, ⊎_elim}
use Rattle.std.specs.Int.Signed.{pos-nat_abs, yes_non_neg}
use Rattle.std.proofs.Math.Nat.{pow-le-pow_right, pow-suc}
use Rattle.std.proofs.lemmas.Bool.{cases_lt}
use Rattle.std.proofs.lemmas.Int.{ints}
use Rattle.modular_reduced.specs.Forms.{IsCanonical}
use Rattle.modular_reduced.specs.Plain.{plain_form, plain_value, plain_canonical}
use Rattle.modular_folds.specs.Folds.{IsFolding}
use Rattle.modular_folds.specs.Solinas.{IsTrinomialRange, trinomial, IsLowTrinomial}

-- a higher power of two is at least twice a lower one
power_doubles : (i j : ℕ) → i < j → 2 ^ i + 2 ^ i ≤ 2 ^ j
power_doubles i j below =
    let more : suc i ≤ j = omega arith in
    omega (arith, pow-suc 2 i, pow-le-pow_right {n = 2} (lit< tt) more)

-- an integer of magnitude below b is above -b and below b
between : (k : ℤ) (b : ℕ) → nat_abs k < b → ((pos 0 -ℤ pos b) <ℤ k) × (k <ℤ pos b)
between (pos n) b h = (omega (arith, ints), omega (arith, ints))
between (negsuc n) b h = (omega (arith, ints), omega (arith, ints))

-- an odd integer that isn't below 0 is above it
above_zero : (k : ℤ) → nat_abs k % 2 ≡ 1 → ¬ (k <ℤ pos 0) → pos 0 <ℤ k
above_zero (pos n) o h = omega (arith, ints)
above_zero (negsuc n) o h = absurd (h (omega (arith, ints)))

module _ {w p1 p2 : ℕ} {k : ℤ} (r : IsTrinomialRange w p1 p2 k) where
  -- the last term is between the powers
  pub last_term : ((pos 0 -ℤ pos (2 ^ p2)) <ℤ k) × (k <ℤ pos (2 ^ p2))
  last_term = between k (2 ^ p2) r.small

  -- as an integer the modulus is 2^p1 - 2^p2 + k
  pub trinomial_is : pos (trinomial p1 p2 k) ≡ (pos (2 ^ p1) -ℤ pos (2 ^ p2)) +ℤ k
  trinomial_is =
      let up = last_term.0 in
      pos-nat_abs ((pos (2 ^ p1) -ℤ pos (2 ^ p2)) +ℤ k)
      (yes_non_neg (omega (arith, ints, power_doubles p2 p1 r.falling, up)))

  -- it is above 0
  pub trinomial_positive : 0 < trinomial p1 p2 k
  trinomial_positive = omega (arith, ints, power_doubles p2 p1 r.falling, last_term.0, trinomial_is)

  -- and below 2^p1
  pub trinomial_below : trinomial p1 p2 k < 2 ^ p1
  trinomial_below = omega (arith, ints, last_term.1, trinomial_is)

  -- 2^p1 is at most 2^w
  pub power_fits : 2 ^ p1 ≤ 2 ^ w
  power_fits = pow-le-pow_right {n = 2} (lit< tt) r.fits

  -- so the modulus fits a word of w bits
  pub trinomial_fits : trinomial p1 p2 k < 2 ^ w
  trinomial_fits = omega (arith, power_fits, trinomial_below)

  -- it is more than half of 2^p1 where it isn't low
  pub trinomial_half : ¬ IsLowTrinomial p1 p2 k → 2 ^ p1 < 2 * trinomial p1 p2 k
  trinomial_half high =
      ⊎_elim
      (λ (far : suc p2 < p1).
      omega (arith, ints, power_doubles (suc p2) p1 far, pow-suc 2 p2, last_term.0, trinomial_is))
      (λ (near : p1 ≤ suc p2).
      let next : p1 ≡ p2 + 1 = omega (arith, r.falling) in
      let up = above_zero k r.odd (λ low. high (next, low)) in
      omega (arith, ints, power_doubles p2 p1 r.falling, up, trinomial_is))
      (cases_lt (suc p2) p1)

  -- folds at the bit p1 by 2^p1 less the modulus then reduce modulo it
  pub trinomial_folding : (p c m : ℕ) → ¬ IsLowTrinomial p1 p2 k → p ≡ p1
      → c + trinomial p1 p2 k ≡ 2 ^ p1 → m ≡ trinomial p1 p2 k
      → IsFolding w p c m
  trinomial_folding p c m high at rest is =
      let half = trinomial_half high in
      rw at (record {
        fits = r.fits;
        some = omega (arith, rest, trinomial_below);
        whole = omega (arith, rest, is);
        half = omega (arith, rest, is, half);
      })

  -- the form of each value can be the value itself
  pub trinomial_canonical : IsCanonical plain_form plain_value w (trinomial p1 p2 k)
  trinomial_canonical = plain_canonical _ _ trinomial_positive trinomial_fits
