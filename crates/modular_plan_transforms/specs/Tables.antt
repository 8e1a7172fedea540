-- The table of a root (Harvey, "Faster arithmetic for number-theoretic transforms", section 3). The name is the
-- library's own word.
use Rattle.std.specs.Prelude.{◌≡◌, ℕ, ◌*◌, ◌^◌, List, length}
use Rattle.modular_plan_passes.specs.Factors.{AllFactors}
use Rattle.modular_plan_passes.specs.Plans.{numbers, AreTwiddles}

-- the table is that of g: the twiddle factors, with their quotients by m, for as many entries as twice its length; b is
-- the base, and the two functions give an entry's factor and its quotient
pub record IsTable {F : Type 0} (b m g : ℕ) (value quotient : F → ℕ) (table : List F) : Type 0 where
  pub factors : AllFactors b m value quotient table
  pub twiddles : (z : ℕ) → 2 ^ z ≡ 2 * length table → AreTwiddles m g z (length table) (numbers value table)
