-- Verhoeff's check digit (J. Verhoeff, Error Detecting Decimal Codes, Mathematical Centre Tracts 29, Amsterdam 1969).
-- The digits are the symmetries of a regular pentagon: 0 to 4 the rotations r^d, 5 to 9 the reflections r^(d - 5)·s.
use Rattle.std.specs.Prelude.{◌≡◌, ℕ, zero, suc, ◌+◌, ◌-◌, ◌*◌, ◌/◌, ◌%◌, ◌≤◌, if◌then◌else◌, nat_lt}
use Rattle.std.specs.Prelude.{List, [], ◌∷◌, All, length, slice_index}
use Rattle.check_digits.specs.States.{state_after}

-- the product of two symmetries: s·r^k = r^(-k)·s
abbrev pub dihedral : ℕ → ℕ → ℕ
dihedral a b = (if nat_lt a 5 then a + b else a + 5 - b) % 5 + 5 * ((a / 5 + b / 5) % 2)

-- Verhoeff's permutation (0 1 5 8 9 4 2 7)(3 6)
abbrev pub permuted : ℕ → ℕ
permuted d = slice_index (1 ∷ 5 ∷ 7 ∷ 6 ∷ 2 ∷ 8 ∷ 3 ∷ 0 ∷ 9 ∷ 4 ∷ []) d

-- a digit, permuted as many times as its place says
unfoldable pub image : ℕ → ℕ → ℕ
image zero d = d
image (suc place) d = permuted (image place d)

-- the product of the images of the digits, from the last one on, which is at the place `first`
abbrev pub verhoeff_product : ℕ → List ℕ → ℕ
verhoeff_product first word = state_after (λ i c d. dihedral c (image (i + first) d)) 0
    (λ i. slice_index word (length word - 1 - i)) (length word)

-- the word has a check digit, its symbols are digits, and the product is 0, the rotation by nothing
pub record IsVerhoeff (word : List ℕ) : Type 0 where
  pub least : 1 ≤ length word
  pub digits : All (λ d. d ≤ 9) word
  pub product : verhoeff_product 0 word ≡ 0
