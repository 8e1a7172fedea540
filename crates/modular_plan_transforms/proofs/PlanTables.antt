-- A table is that of g where its entries are factors and the powers of g in bit-reversed order.
use Rattle.std.proofs.Common.{◌≡◌, ℕ, suc, ◌+◌, ◌-◌, ◌*◌, ◌/◌, ◌%◌, ◌^◌, ◌<◌, ◌↔◌}
use Rattle.std.proofs.Common.{List, length, ap, subst, sym, ◌∙◌, arith}
use Rattle.std.proofs.Math.Nat.{two-pow-succ, pow-zero, lt-div-mul-add, div-mul-le_self}
use Rattle.std.proofs.lemmas.Nat.{mul-mod_first, pow-add, div-mul-add}
use Rattle.modular_word.proofs.Congruence.{same_rest, factor_cancel}
use Rattle.modular_word.proofs.Powers.{pow-one}
use Rattle.modular_plan_passes.specs.Factors.{IsFactor, AllFactors}
use Rattle.modular_plan_passes.specs.Plans.{numbers, AreTwiddles}
use Rattle.modular_plan_passes.proofs.Tables.{half_has_previous_exponent}
use Rattle.modular_transform.specs.Orders.{bits_reversed}
use Rattle.modular_transform.specs.Transforms.{Suits}
use Rattle.modular_plan_transforms.specs.Tables.{IsTable}

-- the values are the powers of g in the order of the bits reversed
abbrev pub ArePowers : {F : Type 0} → ℕ → ℕ → ℕ → (F → ℕ) → List F → Type 0
ArePowers m g bits value table = (k : ℕ) → k < length table → numbers value table k ≡ g ^ bits_reversed bits k % m

-- a factor with its quotient q: the number that completes q * m to a multiple of the base is below m, and the multiple
-- is
-- by the factor
pub factor_by_sum : (b m w q low top rest low_sum high : ℕ) → m < b → q * m ≡ low + b * top → (rest + low) % b ≡ 0
    → rest < b → q * m + rest ≡ low_sum + b * high → low_sum < b
    → ((w < m) × (rest < m) × (high ≡ w)) ↔ IsFactor b m w q
factor_by_sum b m w q low top rest low_sum high small product wrapped rest_fits sum low_fits =
    let k : ℕ = (rest + low) / b in
    let some : 0 < b = omega (arith, small) in
    let parts : rest + low ≡ 0 + b * k = omega (arith, wrapped) in
    let spread : b * (top + k) ≡ b * top + b * k = omega arith in
    let none : low_sum ≡ 0 = same_rest b low_sum 0 high (top + k) low_fits some
    (omega (arith, sum, product, parts, spread)) in (
      λ are.
          record {
            below = are.0;
            quotient = sym (div-mul-add q m rest are.1)
                ∙ ap (λ v. v / m) (omega (arith, sum, none, ap (λ v. b * v) are.2));
          },
      λ is.
          let most : w * b < w * b / m * m + m = lt-div-mul-add (omega (arith, is.below)) in
          let whole = ap (λ v. v * m) is.quotient in
          let left : ℕ = w * b - q * m in
          let all : w * b ≡ q * m + left = omega (arith, div-mul-le_self (w * b) m, whole) in
          let few : left < m = omega (arith, all, most, whole) in
          let same : left ≡ rest = same_rest b left rest (top + k) w (omega (arith, few, small)) rest_fits
          (omega (arith, all, product, parts, spread)) in (
            is.below,
            subst (λ v. v < m) same few,
            factor_cancel b high w some (omega (arith, sum, none, all, same)),
          ),
    )

-- the powers, one after the other
pub power_first : (m one power g : ℕ) → one ≡ 1 → power ≡ one % m → power ≡ g ^ 0 % m
power_first m one power g is_one is = is ∙ ap (λ v. v % m) (is_one ∙ sym (pow-zero g))

pub power_next : (m g k power next : ℕ) → power ≡ g ^ k % m → next ≡ (power * g) % m → next ≡ g ^ (k + 1) % m
power_next m g k power next is e = grind (arith, mul-mod_first, pow-one, pow-add)

pub table_of : {F : Type 0} (b m g bits : ℕ) (value quotient : F → ℕ) (table : List F) → length table ≡ 2 ^ bits
    → Suits m g (2 * length table) → AllFactors b m value quotient table → ArePowers m g bits value table
    → IsTable b m g value quotient table
table_of b m g bits value quotient table whole suits factors powers = grind (arith, half_has_previous_exponent)

pub powers_of : {F : Type 0} (b m g bits : ℕ) (value quotient : F → ℕ) (table : List F) → length table ≡ 2 ^ bits
    → IsTable b m g value quotient table → ArePowers m g bits value table
powers_of b m g bits value quotient table whole is k l =
    let less : suc bits - 1 ≡ bits = omega arith in
    rw less at ((is.twiddles (suc bits) (omega (arith, two-pow-succ bits, whole))).entry k l)

-- a table of so many factors that is that of g, for twice as many entries
pub made_table : {F : Type 0} {b m g count : ℕ} {value quotient : F → ℕ} {table : List F} → length table ≡ count
    → AllFactors b m value quotient table
    → ((z : ℕ) → 2 ^ z ≡ 2 * count → AreTwiddles m g z count (numbers value table)) → IsTable b m g value quotient table
made_table {m = m} {g = g} {value = value} {table = table} same factors twiddles = grind arith
