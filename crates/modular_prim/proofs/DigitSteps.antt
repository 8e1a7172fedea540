-- Quotients by digits of base 4.
use Rattle.std.proofs.Common.{◌≡◌, ℕ, ◌+◌, ◌-◌, ◌*◌, ◌/◌, ◌%◌, ◌^◌, ◌<◌, ◌≤◌, ap, ◌∙◌, arith}
use Rattle.std.proofs.lemmas.Nat.{pow-add}
use Rattle.std.proofs.Math.Nat.{add-mul-mod_self_left, mod-eq_of_lt, div-eq_of_lt-le}
use Rattle.std.proofs.Math.Pow.{pow-lt}
use Rattle.modular_word.specs.Division.{IsDivision}

-- the quotient of a division
pub division_gives_quotient : {a d q r : ℕ} → IsDivision a d q r → q ≡ a / d
division_gives_quotient {a} {d} {q} {r} is = grind (arith, div-eq_of_lt-le)

-- the remainder of a division
pub remainder_is : {a d q r : ℕ} → IsDivision a d q r → r ≡ a % d
remainder_is {a} {d} {q} {r} is = grind (arith, add-mul-mod_self_left, mod-eq_of_lt)

-- two digits form one of base 16
pub two_are : {a d fourfold high left low rest q : ℕ} → fourfold ≡ d * 4 → IsDivision a fourfold high left
    → IsDivision left d low rest → q ≡ high * 4 + low → IsDivision a d q rest
two_are {a} {d} {fourfold} {high} {left} {low} {rest} {q} four first second eq = record {
  whole =
      let e : q * d ≡ (high * 4 + low) * d = ap (λ v. v * d) eq in
      let f : high * fourfold ≡ high * (d * 4) = ap (λ v. high * v) four in
      omega (arith, first.whole, second.whole);
  below = second.below;
}

-- four digits leave the remainder
pub four_leave : {a d scaled high left low rest : ℕ} → scaled ≡ d * 16 → IsDivision a scaled high left
    → IsDivision left d low rest → rest ≡ a % d
four_leave {a} {d} {scaled} {high} {left} {low} {rest} is first second =
    remainder_is {q = high * 16 + low} (record {
      whole = omega (arith, (ap (λ v. high * v) is), first.whole, second.whole);
      below = second.below;
    })

-- a part of the base, as often
pub part_times : {w b by k : ℕ} → by ≤ w → b ≡ 2 ^ w → k ≡ w - by → 2 ^ by * 2 ^ k ≡ b
part_times {w} {b} {by} {k} within is at = grind (arith, pow-add)

pub one_of : {one : ℕ} (k : ℕ) → one ≡ 1 → one * k ≡ k
one_of {one} k e = ap (λ v. v * k) e ∙ (let f : 1 * k ≡ k = omega arith in f)

-- a part of the base is a word
pub partial_power_below_base : {w b by k : ℕ} → 1 ≤ by → by ≤ w → b ≡ 2 ^ w → k ≡ w - by → 2 ^ k < b
partial_power_below_base {w} {b} {by} {k} some within is at = grind (arith, pow-lt)
