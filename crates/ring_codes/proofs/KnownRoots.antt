-- What a field says of a root: n is one power of two, so that it suits n is known.
use Rattle.ring_codes.proofs.Names.{◌≡◌, ◌^◌, ℕ, arith, inl, inr, ∥∥₁_elim, cases_lt, IsPowerOfTwo, Suits}
use lib.Pow.{pow-lt}
use mathlib.Core.HLevel.{Σ_prop_path}
use native.Mathlib.Nat.{ℕ_set}

power_of_two_witness_unique : (n : ℕ) (u v : IsPowerOfTwo n) → u ≡ v
power_of_two_witness_unique n u v = Σ_prop_path (λ k. ℕ_set n (2 ^ k)) (elim (cases_lt u.0 v.0) [
  | inl less ↦ absurd (omega (arith, pow-lt less, u.1, v.1))
  | inr more ↦ elim (cases_lt v.0 u.0) [
    | inl less ↦ absurd (omega (arith, pow-lt less, u.1, v.1))
    | inr other ↦ omega (arith, more, other)
  ]
])

pub suits_known : (m g n : ℕ) → ∥ Suits m g n ∥₁ → Suits m g n
suits_known m g n known = record {
  power_of_two = ∥∥₁_elim known (power_of_two_witness_unique n) (λ suits. suits.power_of_two);
  half_turn = λ more. ∥∥₁_elim known (λ p q. ℕ_set _ _ p q) (λ suits. suits.half_turn more);
}
