-- The table of a plan that owns it: its fields say of the entries what a plan over them says.
use Rattle.std.proofs.Common.{◌≡◌, ℕ, ◌+◌, ◌-◌, ◌*◌, ◌/◌, ◌%◌, ◌^◌, ◌<◌, List, length, arith, sym}
use Rattle.std.specs.Int.{trailing_zeros, w64}
use Rattle.modular_plan_passes.specs.Factors.{AllFactors}
use Rattle.modular_plan_passes.proofs.Tables.{half_has_previous_exponent, half_is_power_of_two}
use Rattle.modular_transform.proofs.PowersOfTwo.{power_by_zeros}
use Rattle.modular_transform.specs.Transforms.{Suits}
use Rattle.modular_plan_transforms.proofs.PlanTables.{ArePowers, table_of}
use Rattle.modular_plan_transforms.proofs.PlanFields.{twice_power_of_two}
use Rattle.modular_plan_transforms.specs.Tables.{IsTable}

-- the fields
pub record IsKept {F : Type 0} (b m g : ℕ) (value quotient : F → ℕ) (entries : List F) : Type 0 where
  pub odd : m % 2 ≡ 1
  pub below : g < m
  pub power_of_two : length entries ≡ 2 ^ trailing_zeros w64 (length entries)
  pub half_turn : (g ^ length entries + 1) % m ≡ 0
  pub factors : AllFactors b m value quotient entries
  pub powers : ArePowers m g (trailing_zeros w64 (length entries)) value entries

-- what a plan over them asks for
pub record IsLent {F : Type 0} (b m g : ℕ) (value quotient : F → ℕ) (entries : List F) : Type 0 where
  pub suits : Suits m g (2 * length entries)
  pub holds : IsTable b m g value quotient entries

pub lent_by_kept : {F : Type 0} {b m g : ℕ} {value quotient : F → ℕ} {entries : List F}
    → IsKept b m g value quotient entries → IsLent b m g value quotient entries
lent_by_kept {b = b} {m} {g} {value} {quotient} {entries} is =
    let halved : 2 * length entries / 2 ≡ length entries = omega arith in
    let suits : Suits m g (2 * length entries) = record {
      power_of_two = (_, twice_power_of_two _ _ is.power_of_two);
      half_turn = λ _. rw halved is.half_turn;
    } in
    record { suits = suits; holds = table_of b m g _ value quotient entries is.power_of_two suits is.factors is.powers }

-- by a plan over them
pub kept_by_plan : {F : Type 0} (b m g bits : ℕ) (value quotient : F → ℕ) (entries : List F) → length entries < 2 ^ 64
    → m % 2 ≡ 1 → g < m → 2 * length entries ≡ 2 ^ bits → (g ^ length entries + 1) % m ≡ 0
    → AllFactors b m value quotient entries
    → ArePowers m g (bits - 1) value entries → IsKept b m g value quotient entries
kept_by_plan b m g bits value quotient entries few odd below half turn factors powers =
    let count = length entries in
    let power = power_by_zeros count (half_is_power_of_two (bits, half)) few in
    record {
      odd = odd;
      below = below;
      power_of_two = power;
      half_turn = turn;
      factors = factors;
      powers = λ k l. rw (half_has_previous_exponent bits count (trailing_zeros w64 count) (sym half) power).0
          (powers k l);
    }
