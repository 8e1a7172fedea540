-- The moduli k * 2^n + 1 of the reducers of fixed moduli (Proth, "Théorèmes sur les nombres premiers", Comptes
-- rendus 87, 1878).
use Rattle.std.specs.Prelude.{◌≡◌, ℕ, ◌+◌, ◌*◌, ◌%◌, ◌^◌, ◌<◌, ◌≤◌}

-- the modulus of the parameters n and k
abbrev pub proth_modulus : ℕ → ℕ → ℕ
proth_modulus n k = k * 2 ^ n + 1

-- the greatest moduli that are accepted are those of the Rust crate num-modular: the base divided by the golden
-- ratio, rounded down, for 32 bits, and 1000 more than that for 64; no modulus of the form is so near to either
abbrev pub greatest_proth_32 : ℕ
greatest_proth_32 = 2654435769

-- for words of 64 bits
abbrev pub greatest_proth_64 : ℕ
greatest_proth_64 = 11400714819323199485

-- for words of w bits the parameters n and k are in range
pub record IsProthRange (w greatest n k : ℕ) : Type 0 where
  pub n_positive : 0 < n
  pub n_below : n < w
  pub k_odd : k % 2 ≡ 1
  pub k_below : k < 2 ^ n
  pub at_most : proth_modulus n k ≤ greatest

-- n and k are in range, and m is their modulus
pub record IsProth (w greatest n k m : ℕ) : Type 0 where
  pub range : IsProthRange w greatest n k
  pub same : m ≡ proth_modulus n k
