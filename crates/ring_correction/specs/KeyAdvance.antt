-- Pairs of polynomials as one list each (Kötter, "On algebraic decoding of algebraic-geometric and cyclic codes", 1996).
use Rattle.std.specs.Prelude.{ℕ, List}
use Rattle.std.proofs.Common.{take, drop}
use Rattle.ring_correction.specs.KeyEquations.{HasKeyPair, AreKeyPairs}

-- a list holds a pair: the first `split` entries are the numerator, the others the locator
abbrev pub HoldsPair : {T : Type 0} → (List T → ℕ → ℕ) → ℕ → ℕ → ℕ → ℕ → ℕ → ℕ → (ℕ → ℕ) → (ℕ → ℕ) → List T → Type 0
HoldsPair entries m k split d i u x y list =
    HasKeyPair m k split d i u x y (entries (take split list)) (entries (drop split list))

-- two lists hold pairs with the weights v and w
abbrev pub HoldPairs : {T : Type 0} → (List T → ℕ → ℕ) → ℕ → ℕ → ℕ → ℕ → ℕ → ℕ → ℕ → (ℕ → ℕ) → (ℕ → ℕ) → List T → List T
    → Type 0
HoldPairs entries m k split d i v w x y first second = AreKeyPairs m k split d i v w x y
    (entries (take split first)) (entries (drop split first)) (entries (take split second)) (entries (drop split second))
