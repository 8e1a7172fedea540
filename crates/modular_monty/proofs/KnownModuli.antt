-- What is computed once of an odd number that the compiler knows, by functions without a condition.
use Rattle.std.proofs.Common.{◌≡◌, ℕ, zero, suc, ◌+◌, ◌-◌, ◌*◌, ◌%◌, ◌^◌, ◌<◌, ◌≤◌, sym, ap, ◌∙◌, arith, refl}
use Rattle.std.proofs.Math.Nat.{mod-lt, mod-eq_of_lt, mod_self, mod-add-mod, add-mul-mod_self_left, le_trans}
use Rattle.std.proofs.Math.Nat.{pow-le-pow_right}
use Rattle.std.proofs.Math.Pow.{not_mod}
use Rattle.std.proofs.lemmas.Nat.{pow-add}
use Rattle.modular_word.proofs.Congruence.{same_without_unit}
use Rattle.modular_word.proofs.Lifting.{InverseTo, base_above_two, lift_start, lift_step, lift_end}
use Rattle.modular_monty.specs.Montgomery.{IsOddModulus, negated_inverse_of}
use Rattle.modular_monty.specs.MontgomeryLaws.{value_below-found}

-- the double word that wraps from 0 by m is congruent to the square of the base
pub wrapped_square : (square m : ℕ) → 0 < m → m < square → (0 + (square - m)) % square % m ≡ square % m
wrapped_square square m some fits = grind (arith, mod-eq_of_lt, add-mul-mod_self_left)

-- .. and so are its low bits, where the square is narrower than a word
pub wrapped_narrow_square : (w v m : ℕ) → v + v ≤ w → 0 < m → m < 2 ^ v
    → (0 + (2 ^ w - m)) % 2 ^ w % 2 ^ (2 * v) % m ≡ (2 ^ v * 2 ^ v) % m
wrapped_narrow_square w v m narrow some fits =
    let q = 2 ^ (2 * v) in
    let rest = w - 2 * v in
    let room : m < q = le_trans fits (pow-le-pow_right (omega arith) (omega arith)) in
    let within : q ≤ 2 ^ w = pow-le-pow_right (omega arith) (omega arith) in
    let top : 2 ^ w ≡ 2 ^ (rest + 2 * v) = ap (λ n. 2 ^ n) (omega arith) in
    let less : 0 + (2 ^ w - m) ≡ 2 ^ (rest + 2 * v) - 1 - (m - 1) = omega arith in
    let low : (0 + (2 ^ w - m)) % 2 ^ w % q ≡ q - 1 - (m - 1) =
    ap (λ n. n % q) (mod-eq_of_lt (omega arith) ∙ less) ∙ not_mod rest (2 * v) (omega arith) in
    let same : q - 1 - (m - 1) ≡ (0 + (q - m)) % q = grind (arith, mod-eq_of_lt) in
    ap (λ n. n % m) (low ∙ same) ∙ wrapped_square q m some room
    ∙ ap (λ n. n % m) (ap (λ n. 2 ^ n) (omega arith) ∙ pow-add 2 v v)

module _ (w b m : ℕ) (base : b ≡ 2 ^ w) (wide : 8 ≤ w) (odd : m % 2 ≡ 1) (fits : m < b) where
  some : 0 < b
  some = omega (arith, fits)

  -- a number whose sum with p is congruent to 2
  from_two : (p : ℕ) → p < b → (2 + (b - p) + p) % b ≡ 2
  from_two p h =
      ap (λ v. v % b) (omega arith) ∙ add-mul-mod_self_left 2 b 1 ∙ mod-eq_of_lt (base_above_two w b base wide)

  -- each of Newton's steps adds a bit at least
  inverse_to : (c : ℕ) → (i : ℕ) × (i < b) × InverseTo w m i (c + 3)
  inverse_to zero = (m, fits, lift_start w m 3 odd refl)
  inverse_to (suc c) =
      let known = inverse_to c in
      let i = known.0 in
      let p = (m * i) % b in
      let n = (i * (2 + (b - p))) % b in
      let next : InverseTo w m n (c + 3 + (c + 3)) =
      lift_step w b m i (c + 3) p (2 + (b - p)) n _ base known.2 refl (from_two p (mod-lt (m * i) some)) refl refl in
      (n, mod-lt (i * (2 + (b - p))) some, record { inverse = λ d h k. next.inverse d (omega arith) k })

  -- a number below the base is the negated inverse, if its product with m is -1
  negated_is : (i v : ℕ) → (m * i) % b ≡ 1 % b → v < b → (m * v) % b ≡ b - 1 → negated_inverse_of b m ≡ v
  negated_is i v unit below product =
      value_below-found (λ x. (m * x) % b) b v (b - 1)
      (λ x l e.
      let same : (x * m) % b ≡ (v * m) % b =
      grind arith in
      sym (mod-eq_of_lt l) ∙ same_without_unit b x v m i unit same ∙ mod-eq_of_lt below)
      below product

  -- so an odd number below the base has one
  pub odd_modulus : IsOddModulus w b m
  odd_modulus =
      let known = inverse_to w in
      let i = known.0 in
      let v = (b - i) % b in
      let unit : (m * i) % b ≡ 1 % b =
      ap (λ n. (m * i) % n) base ∙ known.2.inverse w (omega arith) (omega arith) ∙ ap (λ n. 1 % n) (sym base) in
      let zero_b : (v + i) % b ≡ 0 = mod-add-mod (b - i) b i ∙ ap (λ n. n % b) (omega (arith, known.1)) ∙ mod_self b in
      let product : (m * v) % b ≡ b - 1 = lift_end w b m i (w + 3) v base wide known.2 (omega arith) zero_b in
      let is = negated_is i v unit (mod-lt (b - i) some) product in
      grind arith
