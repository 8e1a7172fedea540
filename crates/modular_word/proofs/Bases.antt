-- The base of a word of w bits: how numbers pass between `< 2 ^ w` and `< b`.
use Rattle.std.proofs.Common.{◌≡◌, ℕ, ◌+◌, ◌-◌, ◌*◌, ◌^◌, ◌<◌, ◌≤◌, sym, ap, ◌∙◌, arith}
use Rattle.std.proofs.lemmas.Nat.{pow-add, pow_pos}

-- a word of at least 8 bits has at least 256 numbers
pub base_at_least : (w b : ℕ) → b ≡ 2 ^ w → 8 ≤ w → 256 ≤ b
base_at_least w b e h =
    let s : w ≡ 8 + (w - 8) = omega arith in
    let p : 0 < 2 ^ (w - 8) = pow_pos _ in
    let f : b ≡ 256 * 2 ^ (w - 8) = e ∙ ap (λ v. 2 ^ v) s ∙ pow-add _ _ _ in
    omega arith

-- a number below 2 ^ w is below the base, and the other way
pub below_base : (w b n : ℕ) → b ≡ 2 ^ w → n < 2 ^ w → n < b
below_base w b n e h = omega arith

pub below_power : (w b n : ℕ) → b ≡ 2 ^ w → n < b → n < 2 ^ w
below_power w b n e h = omega arith

-- the words of a double word: 2 ^ (w + w) numbers
pub double_base : (w b : ℕ) → b ≡ 2 ^ w → b * b ≡ 2 ^ (w + w)
double_base w b e = ap (λ v. v * v) e ∙ sym (pow-add 2 w w)
