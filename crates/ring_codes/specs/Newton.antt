-- Newton's form of a polynomial through given points (Newton, Principia, book III, lemma 5; Knuth, The Art of Computer
-- Programming, volume 2, section 4.6.4).
use Rattle.std.specs.Prelude.{ℕ, zero, suc, ◌+◌, ◌*◌, pos, ◌-ℤ◌}
use Rattle.num_modular.specs.Residues.{residue}

-- the difference of the points i and j modulo m
abbrev pub difference : ℕ → (ℕ → ℕ) → ℕ → ℕ → ℕ
difference m x i j = residue m (pos (x i) -ℤ pos (x j))

-- c i + (a - x i)·(c (i + 1) + (a - x (i + 1))·(c (i + 2) + ..)), with n coefficients from number i on, each difference
-- modulo m
unfoldable pub newton_form : ℕ → (ℕ → ℕ) → (ℕ → ℕ) → ℕ → ℕ → ℕ → ℕ
newton_form m c x a i zero = 0
newton_form m c x a i (suc n) = c i + residue m (pos a -ℤ pos (x i)) * newton_form m c x a (suc i) n
