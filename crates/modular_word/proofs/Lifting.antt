-- An inverse modulo a power of two, lifted to its square.
use Rattle.std.proofs.Common.{◌≡◌, ℕ, zero, suc, ◌+◌, ◌-◌, ◌*◌, ◌/◌, ◌%◌, ◌^◌, ◌<◌, ◌≤◌, sym, ap, ◌∙◌, arith, refl, ap₂}
use Rattle.std.proofs.Math.Nat.{mod-lt, mod-mod, mod-one, mod_self, mod-add-mod, add-mod-mod}
use Rattle.std.proofs.Math.Nat.{mod-eq_of_lt, add-mul-mod_self_left}
use Rattle.std.proofs.lemmas.Nat.{pow_below, pow_pos, pow-add, mul-mod, mul-mod_second}
use Rattle.modular_word.proofs.Congruence.{mod_cancel, same_sum, same_product, same_without, mod_of_multiple}

-- a base of 8 bits or more is above 2
pub base_above_two : (w b : ℕ) → b ≡ 2 ^ w → 8 ≤ w → 2 < b
base_above_two w b eb h = omega (arith, (pow_below 2 w (omega arith)))

-- i is the inverse of m modulo each power of two up to the given one, in words of w bits
pub record InverseTo (w m i bits : ℕ) : Type 0 where
  pub inverse : (c : ℕ) → c ≤ bits → c ≤ w → (m * i) % 2 ^ c ≡ 1 % 2 ^ c

-- what is congruent modulo a power of two is congruent modulo a lower one
pub lower_power : (c d x y : ℕ) → c ≤ d → x % 2 ^ d ≡ y % 2 ^ d → x % 2 ^ c ≡ y % 2 ^ c
lower_power c d x y h e =
    let whole : 2 ^ d ≡ 2 ^ c * (2 ^ (d - c)) =
    ap (λ n. 2 ^ n) (let f : d ≡ c + (d - c) = omega arith in f) ∙ pow-add _ _ _ in
    let down : (z : ℕ) → z % 2 ^ d % 2 ^ c ≡ z % 2 ^ c = λ z. ap (λ n. z % n % 2 ^ c) whole ∙ mod_of_multiple _ _ z in
    sym (down x) ∙ ap (λ n. n % 2 ^ c) e ∙ down y

-- the square of an odd number below 8 is 1 modulo 8
odd_square : (r : ℕ) → r < 8 → r % 2 ≡ 1 → (r * r) % 8 ≡ 1
odd_square zero h e = absurd (omega arith)
odd_square (suc zero) h e = refl
odd_square (suc (suc zero)) h e = absurd (omega arith)
odd_square (suc (suc (suc zero))) h e = refl
odd_square (suc (suc (suc (suc zero)))) h e = absurd (omega arith)
odd_square (suc (suc (suc (suc (suc zero))))) h e = refl
odd_square (suc (suc (suc (suc (suc (suc zero)))))) h e = absurd (omega arith)
odd_square (suc (suc (suc (suc (suc (suc (suc zero))))))) h e = refl
odd_square (suc (suc (suc (suc (suc (suc (suc (suc r)))))))) h e = absurd (omega arith)

-- an odd number is its own inverse modulo 8
pub lift_start : (w m bits : ℕ) → m % 2 ≡ 1 → bits ≡ 3 → InverseTo w m m bits
lift_start w m bits odd e =
    record {
      inverse = λ c h k.
          lower_power c 3 (m * m) 1 (omega arith) (mul-mod m m 8
          ∙ odd_square (m % 8) (mod-lt m (omega arith)) (omega arith));
    }

-- one lifting, modulo 2^c where x is 1 modulo 2^d
pub inverse_to_more_bits : (c d x t : ℕ) → c ≤ d + d → x % 2 ^ d ≡ 1 % 2 ^ d → (t + x) % 2 ^ c ≡ 2 % 2 ^ c
    → (x * t) % 2 ^ c ≡ 1 % 2 ^ c
inverse_to_more_bits c zero x t h ex et = grind (arith, mod-one)
inverse_to_more_bits c (suc d) x t h ex et =
    let D = 2 ^ suc d in
    let one : x % D ≡ 1 = ex ∙ mod-eq_of_lt (omega (arith, pow_pos d)) in
    let e = x / D in
    let sx : x * x ≡ (1 + D * e) * (1 + D * e) = ap₂ (λ n o. n * o) (omega arith) (omega arith) in
    let s : 1 + x * x ≡ x * 2 + 2 ^ (suc d + suc d) * (e * e) = rw (pow-add _ (suc d) (suc d)) (omega arith) in
    let square_part : (1 + x * x) % 2 ^ (suc d + suc d) ≡ (x * 2) % 2 ^ (suc d + suc d) =
    ap (λ n. n % 2 ^ (suc d + suc d)) s ∙ add-mul-mod_self_left _ (2 ^ (suc d + suc d)) (e * e) in
    let high : (1 + x * x) % 2 ^ c ≡ (x * 2) % 2 ^ c = lower_power _ (suc d + suc d) (1 + x * x) _ h square_part in
    let both : (x * t + x * x) % 2 ^ c ≡ (1 + x * x) % 2 ^ c =
    ap (λ n. n % 2 ^ c) (let r : x * t + x * x ≡ x * (t + x) = omega arith in r)
    ∙ same_product _ _ _ _ _ refl et ∙ sym high in
    same_without _ _ _ _ (pow_pos _) both

-- the step from i to i * (2 - m * i), which doubles the bits
pub lift_step : (w b m i bits p s n bits' : ℕ) → b ≡ 2 ^ w → InverseTo w m i bits → p ≡ (m * i) % b
    → (s + p) % b ≡ 2 → n ≡ (i * s) % b → bits' ≡ bits + bits → InverseTo w m n bits'
lift_step w b m i bits p s n bits' eb h ep es en e =
    record {
      inverse = λ c hc hw.
          let sum_b : (s + m * i) % b ≡ 2 % b =
          sym (add-mod-mod _ _ _) ∙ ap (λ v. (s + v) % b) (sym ep) ∙ es
          ∙ sym (ap (λ v. v % b) (sym es) ∙ mod-mod _ _ ∙ es) in
          let sum : (s + m * i) % 2 ^ w ≡ 2 % 2 ^ w = ap (λ v. (s + m * i) % v) (sym eb) ∙ sum_b ∙ ap (λ v. 2 % v) eb in
          let product_b : (m * n) % b ≡ (m * i * s) % b =
          ap (λ v. (m * v) % b) en ∙ mul-mod_second _ _ _
          ∙ ap (λ v. v % b) (let r : m * (i * s) ≡ m * i * s = omega arith in r) in
          let product : (m * n) % 2 ^ w ≡ (m * i * s) % 2 ^ w =
          ap (λ v. (m * n) % v) (sym eb) ∙ product_b ∙ ap (λ v. (m * i * s) % v) eb in
          lower_power c _ _ (m * i * s) hw product
          ∙ inverse_to_more_bits c ((c + 1) / 2) _ _ (omega arith) (h.inverse ((c + 1) / 2) (omega arith) (omega arith))
          (lower_power c _ (s + m * i) _ hw sum);
    }

-- the negative of an inverse
pub lift_end : (w b m i bits r : ℕ) → b ≡ 2 ^ w → 8 ≤ w → InverseTo w m i bits → w ≤ bits → (r + i) % b ≡ 0
    → (m * r) % b ≡ b - 1
lift_end w b m i bits r eb hw h over er =
    let zero_b : 0 % b ≡ 0 = mod-eq_of_lt (omega (arith, eb, pow_pos w)) in
    let one : (m * i) % b ≡ 1 % b =
    ap (λ v. (m * i) % v) eb ∙ h.inverse w over (omega arith) ∙ ap (λ v. 1 % v) (sym eb) in
    let whole : (m * r + 1) % b ≡ 0 % b =
    same_sum _ _ _ _ _ refl (sym one) ∙ ap (λ v. v % b) (let e : m * r + m * i ≡ m * (r + i) = omega arith in e)
    ∙ same_product _ _ _ _ _ refl (er ∙ sym zero_b) ∙ ap (λ v. v % b) (let e : m * 0 ≡ 0 = omega arith in e) in
    let top : (b - 1 + 1) % b ≡ 0 % b =
    ap (λ v. v % b) (let e : b - 1 + 1 ≡ b = omega arith in e) ∙ mod_self _ ∙ sym zero_b in
    mod_cancel _ ((m * r) % b) _ _ (mod-lt _ (omega (arith, eb, pow_pos w))) (omega arith)
    (mod-add-mod _ _ _ ∙ whole ∙ sym top)
