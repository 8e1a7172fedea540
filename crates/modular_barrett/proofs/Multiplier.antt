-- The multiplier and the shift of a divisor.
use Rattle.std.proofs.Common.{◌≡◌, ℕ, suc, ◌+◌, ◌-◌, ◌*◌, ◌/◌, ◌%◌, ◌^◌, ◌<◌, ◌≤◌, sym, ap, ◌∙◌, subst, arith, refl}
use Rattle.std.proofs.Common.{⊎_elim, bit_and}
use Rattle.std.proofs.Math.Nat.{mod-lt, div-add-mod, mod-eq_of_lt, mul-le-mul_left, mul_comm, pow-succ'}
use Rattle.std.proofs.Math.Pow.{pow_mono}
use Rattle.std.proofs.lemmas.Bool.{cases_lt}
use Rattle.std.proofs.lemmas.Nat.{leading_top, and_mask, one_shl}
use Rattle.std.specs.Int.Count.{count_leading_zeros}
use Rattle.modular_word.specs.Reciprocals.{IsMultiplier}
use Rattle.modular_reduced.specs.Powers.{digits}
use Rattle.modular_reduced.proofs.PowerCounts.{digits_above, digits_least}

-- x, which is above 0, has n binary digits, of w at most
pub record HasDigits (w x n : ℕ) : Type 0 where
  pub some : 0 < n
  pub at_most : n ≤ w
  pub top : 2 ^ (n - 1) ≤ x
  pub below : x < 2 ^ n

-- their number is the least n with x below 2^n
pub counted_digits : {w x n : ℕ} → HasDigits w x n → n ≡ digits x
counted_digits {w} {x} {n} h =
    let least : digits x ≤ n = digits_least x n h.below in
    let above : n ≤ digits x =
    ⊎_elim
    (λ (l : digits x < n).
    let m : 2 ^ digits x ≤ 2 ^ (n - 1) = pow_mono (let k : digits x ≤ n - 1 = omega arith in k) in
    absurd (omega (arith, h.top, digits_above x)))
    (λ (l : n ≤ digits x). l)
    (cases_lt (digits x) n) in
    omega arith

pub digits_counted : (w x n : ℕ) → 0 < x → n ≡ digits x → n ≤ w → HasDigits w x n
digits_counted w x n some e most =
    let below : x < 2 ^ n = subst (λ k. x < 2 ^ k) (sym e) (digits_above x) in
    let positive : 0 < n =
    grind arith in
    grind (arith, digits_least)

digits_at : (w x leading j : ℕ) → leading + suc j ≡ w → 2 ^ j ≤ x → x < 2 ^ suc j → HasDigits w x (suc j)
digits_at w x leading j e low high = grind arith

-- the binary digits are those below the leading zeros
pub digits_below_leading : (w b bits leading x : ℕ) → bits ≡ w → b ≡ 2 ^ w → 0 < x → x < b
    → leading ≡ count_leading_zeros w x → HasDigits w x (bits - leading)
digits_below_leading w b bits leading x eb eB some below ez =
    let t = leading_top w x some (subst (λ n. x < n) eB below) in
    let e : suc t.0 ≡ bits - leading = omega (arith, t.1) in
    subst (λ n. HasDigits w x n) e (digits_at w x (count_leading_zeros w x) t.0 t.1 t.2 t.3)

-- the power of two of the digits is twice that of one digit less
pub digits_power : {w x n : ℕ} → HasDigits w x n → 2 ^ n ≡ 2 * 2 ^ (n - 1)
digits_power {w} {x} {n} p =
    ap (λ k. 2 ^ k) (let e : n ≡ suc (n - 1) = omega (arith, p.some) in e) ∙ pow-succ' 2 (n - 1)

-- what is stored for d, where less is d - 1 and gap is 2^n - d
pub record IsPrepared (w b d less n gap : ℕ) : Type 0 where
  pub digits : HasDigits w less n
  pub next : less + 1 ≡ d
  pub fits : d < b
  pub whole : gap + d ≡ 2 ^ n

pub multiplier_prepared : (w b d less n gap one all : ℕ) → 0 < less → n ≡ digits less → n ≤ w → d < b → one ≡ 1
    → less + one ≡ d
    → all + 1 ≡ 2 ^ n → gap + less ≡ all
    → IsPrepared w b d less n gap
multiplier_prepared w b d less n gap one all some counted most fits e1 e2 e3 e4 =
    record { digits = digits_counted w less n some counted most; next = omega arith; fits = fits; whole = omega arith }

-- the quotient leaves room for one more
quotient_below : (w b d less n gap : ℕ) → IsPrepared w b d less n gap → b * gap / d + 1 < b
quotient_below w b d less n gap p =
    let top : 2 ^ (n - 1) ≤ less = p.digits.top in
    let f : d * (b * gap / d) + b * gap % d ≡ b * gap = div-add-mod (b * gap) d in
    let g : b * (gap + 1) ≤ b * d = mul-le-mul_left b (omega (arith, p.next, p.whole, digits_power p.digits)) in
    grind (arith, mul-le-mul_left)

pub multiplier_fits : (w b d less n gap q : ℕ) → IsPrepared w b d less n gap → q ≡ b * gap / d % b → q + 1 < b
multiplier_fits w b d less n gap q p e =
    let h = quotient_below w b d less n gap p in
    omega arith

pub multiplier_is : (w b d less n gap q m : ℕ) → IsPrepared w b d less n gap → q ≡ b * gap / d % b → m ≡ q + 1
    → IsMultiplier w b d m (n - 1)
multiplier_is w b d less n gap q m p e em =
    let h = quotient_below w b d less n gap p in
    let r : b * gap / d % b ≡ b * gap / d = mod-eq_of_lt (omega arith) in
    let N = 2 ^ (n - 1) in
    let f : d * (b * gap / d) + b * gap % d ≡ b * gap = div-add-mod (b * gap) d in
    let l : b * gap % d < d = mod-lt (b * gap) (omega (arith, p.next)) in
    let s : d * m ≡ d * (b * gap / d + 1) = ap (λ v. d * v) (let u : m ≡ b * gap / d + 1 = omega arith in u) in
    let t : b * (gap + d) ≡ b * (2 * N) = ap (λ v. b * v) (p.whole ∙ digits_power p.digits) in
    let top : N ≤ less = p.digits.top in
    let below : less < 2 * N = subst (λ n. less < n) (digits_power p.digits) p.digits.below in
    omega arith

-- what is stored for d in words of w bits, where the power of two is multiplier_computed as g
pub prepared_by : (w d g : ℕ) → 1 < d → d < 2 ^ w → g ≡ 2 ^ (w - count_leading_zeros w (d - 1))
    → IsPrepared w (2 ^ w) d (d - 1) (w - count_leading_zeros w (d - 1)) (g - d)
prepared_by w d g some fits e = grind (arith, digits_below_leading)

-- so it is in words of twice as many bits, with a mask for the low ones
pub multiplier_computed : (w d : ℕ) → 0 < w → 1 < d → d < 2 ^ w →
    let n = w - count_leading_zeros w (d - 1) in let power = 1 * 2 ^ n % 2 ^ (2 * w) in
    let q = bit_and ((power - d) * 2 ^ w / d) (2 ^ w - 1) in
    (d ≤ power) × (q + 1 < 2 ^ w) × IsMultiplier w (2 ^ w) d (q + 1) (n - 1)
multiplier_computed w d wide some fits =
    let power = one_shl (w - count_leading_zeros w (d - 1)) (2 * w) (omega arith) in
    let p = prepared_by w d _ some fits power in
    let q = and_mask _ w ∙ ap (λ v. v / d % 2 ^ w) (mul_comm _ (2 ^ w)) in
    (omega (arith, power, p.digits.below), multiplier_fits _ _ _ _ _ _ _ p q, multiplier_is _ _ _ _ _ _ _ _ p q refl)
