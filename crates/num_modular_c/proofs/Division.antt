-- Division of scaled numbers.
use Rattle.std.proofs.Common.{◌≡◌, ℕ, ◌+◌, ◌*◌, ◌/◌, ◌%◌, ◌^◌, ◌<◌, ◌≤◌, sym, ap, ◌∙◌, arith}
use Rattle.std.proofs.Math.Nat.{mod-lt, mul-le-mul_right}
use Rattle.std.proofs.lemmas.Nat.{pow_pos, shl-shr}
use Rattle.modular_word.specs.Division.{IsDivision}
use Rattle.modular_word.proofs.Congruence.{factor_cancel}
use Rattle.modular_prim.proofs.DigitSteps.{remainder_is}
use Rattle.modular_prim.proofs.Scaled.{scaled_below, scaled_remainder}

-- the quotient stays, and the remainder is scaled too
pub division_unscaled : {n d q r : ℕ} (s : ℕ) → 0 < d → IsDivision (n * 2 ^ s) (d * 2 ^ s) q r
    → IsDivision n d q (r / 2 ^ s)
division_unscaled {n} {d} {q} {r} s some h =
    let p = 2 ^ s in
    let left : r ≡ n % d * p = remainder_is h ∙ scaled_remainder n d p some (pow_pos s) in
    let down : r / p ≡ n % d = ap (λ v. v / p) left ∙ shl-shr (n % d) s in
    let whole : p * n ≡ p * (q * d + n % d) = omega (arith, h.whole, left) in
    record {
      whole = factor_cancel p n (q * d + n % d) (pow_pos s) whole ∙ ap (λ v. q * d + v) (sym down);
      below = omega (arith, down, mod-lt n some);
    }

-- n moved by s bits is a double word, with a high word below t
pub record IsScaledDividend (b n d s t : ℕ) : Type 0 where
  pub high : n * 2 ^ s < t * b
  pub fits : n * 2 ^ s < b * b

pub scaled_dividend : (b n d s t : ℕ) → n < d * b → t ≡ d * 2 ^ s → t < b → IsScaledDividend b n d s t
scaled_dividend b n d s t h e fits =
    let up = scaled_below n (d * b) s h in
    let moved : t * b ≡ d * 2 ^ s * b = ap (λ v. v * b) e in
    let high : n * 2 ^ s < t * b = omega (arith, up, moved) in
    let most : t * b ≤ b * b = mul-le-mul_right b (omega (arith, fits)) in
    record { high = high; fits = omega (arith, high, most) }
