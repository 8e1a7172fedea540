-- Bounds of coefficients, and of the modulus above them.
use Rattle.std.proofs.Common.{ℕ, ◌*◌, ◌<◌, ◌≤◌, List, length, All, slice_index, inl, inr, arith}
use Rattle.std.proofs.Math.Nat.{mul-le-mul_right}
use Rattle.std.proofs.lemmas.Bool.{cases_lt}
use Rattle.std.proofs.lemmas.List.{get_or_past}
use Rattle.std.proofs.lemmas.Nat.{pow_pos}
use Rattle.num_modular.specs.Transforms.{Suits}

-- no entry is above the bound, and the entries after the last are 0
pub entry_at_most_bound : (xs : List ℕ) (b i : ℕ) → All (λ x. x ≤ b) xs → slice_index xs i ≤ b
entry_at_most_bound xs b i all = elim (cases_lt i (length xs)) [
  | inl l ↦ all i 0 l
  | inr l ↦ let z = get_or_past xs i 0 (omega arith) in omega (arith, z)
]

-- a modulus above n squares is above the bound
pub bound_below_modulus : (m g n b : ℕ) → Suits m g n → n * (b * b) < m → b < m
bound_below_modulus m g n b suits l =
    let p = pow_pos suits.power_of_two.0 in let e = suits.power_of_two.1 in
    let some : 1 ≤ n = omega (arith, p, e) in
    let whole = mul-le-mul_right (b * b) some in
    elim (cases_lt 0 b) [
      | inl more ↦ let square = mul-le-mul_right b more in omega (arith, whole, square)
      | inr none ↦ omega arith
    ]
