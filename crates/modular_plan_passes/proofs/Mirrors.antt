-- The entry of a table whose product with another is -1: the one are_mirrored in its power of two.
use Rattle.std.proofs.Common.{◌≡◌, ℕ, suc, zero, ◌+◌, ◌-◌, ◌*◌, ◌/◌, ◌%◌, ◌^◌, ◌<◌, ◌≤◌, sym, ◌∙◌, ap, arith}
use Rattle.std.proofs.Math.Nat.{two-pow-succ, pow-zero, mod-eq_of_lt, zero-mod}
use Rattle.std.proofs.lemmas.Nat.{pow-add, pow_pos}
use Rattle.modular_word.specs.Congruence.{Congruent}
use Rattle.modular_word.proofs.Congruence.{mod_of_eq, mod_refl, mod_trans, mod_add, mod_mul, residue_of}
use Rattle.modular_transform.specs.Orders.{bits_reversed}
use Rattle.modular_transform.proofs.BitReversal.{bits_reversed-suc, bits_reversed_of_zero}
use Rattle.modular_plan_passes.specs.Plans.{AreTwiddles}
use Rattle.modular_plan_passes.specs.Joins.{IsMinusInverse}

-- q and r, with their highest bit the same and all others different
record AreMirrored (u q r : ℕ) : Type 0 where
  within : r < 2 ^ u
  total : bits_reversed u q + bits_reversed u r ≡ 2 ^ u

are_mirrored : (u k q r : ℕ) → 2 ^ k ≤ q → q < 2 * 2 ^ k → q + r + 1 ≡ 3 * 2 ^ k → q < 2 ^ u → AreMirrored u q r
are_mirrored zero k q r least most mirror below = omega (arith, pow_pos k)
are_mirrored (suc u) zero q r least most mirror below =
    grind (arith, two-pow-succ, pow_pos, bits_reversed-suc, bits_reversed_of_zero)
are_mirrored (suc u) (suc k) q r least most mirror below =
    let rest = are_mirrored u k (q / 2) (r / 2) (omega (arith, least)) (omega (arith, most))
    (omega (arith, mirror)) (omega (arith, below)) in
    let one : q % 2 + r % 2 ≡ 1 = omega arith in
    omega (arith, rest, bits_reversed-suc u q, bits_reversed-suc u r, ap (λ v. v * 2 ^ u) one)

-- the are_mirrored entry lies in the table, and is minus the inverse
pub record IsMirror (m count place : ℕ) (w : ℕ → ℕ) (r : ℕ) : Type 0 where
  pub within : r < count
  pub inverse : IsMinusInverse m (w place) (w r)

pub mirror_of_twiddles : {m : ℕ} (g z count k q r : ℕ) (w : ℕ → ℕ) → AreTwiddles m g z count w → q < count → 2 ^ k ≤ q
    → q < 2 * 2 ^ k → q + r + 1 ≡ 3 * 2 ^ k → IsMirror m count q w r
mirror_of_twiddles {m} g zero count k q r w twiddles below least most mirror = omega arith
mirror_of_twiddles {m} g (suc u) count k q r w twiddles below least most mirror =
    let are = are_mirrored u k q r least most mirror (omega (arith, below)) in
    let r_below : r < count = omega (arith, are.within) in
    let entry = λ (p : ℕ) (l : p < count). mod_trans (mod_of_eq (twiddles.entry p l))
    (residue_of (g ^ bits_reversed (suc u - 1) p)) in
    let product : g ^ bits_reversed (suc u - 1) q * g ^ bits_reversed (suc u - 1) r ≡ g ^ (2 ^ suc u / 2) =
    grind (arith, pow-add g (bits_reversed u q) (bits_reversed u r), are.total) in
    let turn : Congruent m (g ^ (2 ^ suc u / 2) + 1) 0 =
    record { same = twiddles.suits.half_turn (omega (arith, pow_pos u)) ∙ sym (zero-mod m) } in
    record {
      within = r_below;
      inverse = record {
        product =
            mod_trans (mod_add (mod_trans (mod_mul (entry q below) (entry r r_below)) (mod_of_eq product))
            (mod_refl 1)) turn;
      };
    }

-- the first entry is 1, and -1 is minus its inverse
pub first_of_twiddles : {m : ℕ} (g z count v : ℕ) (w : ℕ → ℕ) → AreTwiddles m g z count w → 0 < count
    → v + 1 ≡ m → IsMinusInverse m (w 0) v
first_of_twiddles {m} g z count v w twiddles some is =
    let r = ap (λ e. g ^ e) (bits_reversed_of_zero (z - 1)) ∙ pow-zero g in
    let one : Congruent m (w 0) 1 = mod_trans (mod_of_eq (twiddles.entry 0 some))
    (mod_trans (residue_of (g ^ bits_reversed (z - 1) 0)) (mod_of_eq r)) in
    grind arith

-- the place are_mirrored in its power of two, as words have it
pub place_and_mirror_sum : (k q power : ℕ) → 2 ^ k ≤ q → q < 2 * 2 ^ k → q < 18446744073709551616
    → power ≡ (1 * 2 ^ k) % 18446744073709551616
    → q + (power + (power - 1 - (q - power))) + 1 ≡ 3 * 2 ^ k
place_and_mirror_sum k q power least most fits is = omega (arith, mod-eq_of_lt)
