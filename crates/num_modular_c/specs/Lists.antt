-- Lists of words and of forms, for the operations entry by entry. The names are the library's own words.
use Rattle.std.specs.Prelude.{◌≡◌, ℕ, ◌+◌, ◌*◌, ◌%◌, ◌<◌, ◌≤◌, pos, ◌-ℤ◌, List, All, length}
use Rattle.num_modular.specs.Residues.{residue}
use Rattle.num_modular_c.specs.declared.word_lists.Operation.{Operation}
use Rattle.num_modular_c.specs.declared.word_lists.Operation.TheVariants.{Add, Sub, Mul}

-- the residue modulo m of the sum, the difference or the product of two words
abbrev pub combination : Operation → ℕ → ℕ → ℕ → ℕ
combination Add m a b = (a + b) % m
combination Sub m a b = residue m (pos a -ℤ pos b)
combination Mul m a b = (a * b) % m

-- m is a modulus, and the lists are equally long
pub record FitLists (m : ℕ) (xs ys : List ℕ) : Type 0 where
  pub modulus : 1 ≤ m
  pub equal : length ys ≡ length xs

-- each word is a Montgomery form modulo m: it is below m
abbrev pub AreForms : ℕ → List ℕ → Type 0
AreForms m words = All (λ f. f < m) words

-- two lists of forms that are equally long
pub record AreFormLists (m : ℕ) (xs ys : List ℕ) : Type 0 where
  pub equal : length ys ≡ length xs
  pub first : AreForms m xs
  pub second : AreForms m ys
