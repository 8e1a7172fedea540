-- Factors with a precomputed quotient (Shoup; Harvey, "Faster arithmetic for number-theoretic transforms", section 3).
use Rattle.std.specs.Prelude.{ℕ, List, All}
pub use Rattle.modular_reduced.specs.Factors.{IsFactor}
use Rattle.modular_plan_passes.specs.declared.factor.Factor.{Factor}

-- a `Factor` is one modulo m, with its quotient; `number` gives the number of a word
abbrev pub IsFactorOf : {T D : Type 0} → ℕ → (T → ℕ) → ℕ → Factor T D → Type 0
IsFactorOf b number m w = IsFactor b m (number w.value) (number w.quotient)

-- each entry of a table is a factor modulo m; the two functions give an entry's factor and its quotient
abbrev pub AllFactors : {F : Type 0} → ℕ → ℕ → (F → ℕ) → (F → ℕ) → List F → Type 0
AllFactors b m value quotient table = All (λ f. IsFactor b m (value f) (quotient f)) table
