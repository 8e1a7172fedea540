-- Codes over the integers modulo m with one check equation (Gallian, "The mathematics of identification numbers",
-- The College Mathematics Journal 22, 1991; Verhoeff, Error Detecting Decimal Codes, chapter 2).
use Rattle.std.specs.Prelude.{◌≡◌, ◌≢◌, ℕ, suc, ◌*◌, ◌%◌, ◌<◌, ◌≤◌, ◌↔◌}
use Rattle.std.specs.Prelude.{List, [], ◌∷◌, ◌++◌, length, slice_index, slice_set}
use Rattle.std.specs.Prelude.{Option, MatchOption}
use Rattle.num_modular.specs.Sums.{sum_below}
use Rattle.check_digits.specs.declared.Code.{Code}

-- the sum of the symbols, each times the weight of its place
abbrev pub weighted_sum : List ℕ → List ℕ → ℕ
weighted_sum weights word = sum_below (length word) (λ i. slice_index weights i * slice_index word i)

-- a code: the modulus, the residue of the weighted sum of a word, and for each place its weight, its least and its
-- greatest symbol
pub record CheckCode : Type 0 where
  pub modulus : ℕ
  pub residue : ℕ
  pub weights : List ℕ
  pub least : List ℕ
  pub greatest : List ℕ

-- the code of the program's value
abbrev pub code_of : Code → CheckCode
code_of c = record {
  modulus = c.modulus;
  residue = c.residue;
  weights = c.weights.now;
  least = c.least.now;
  greatest = c.greatest.now;
}

-- the symbol is allowed at the place
pub record Fits (code : CheckCode) (place symbol : ℕ) : Type 0 where
  pub least : slice_index code.least place ≤ symbol
  pub greatest : symbol ≤ slice_index code.greatest place

-- the word is of the code: it has an allowed symbol for each place, and the weighted sum is congruent to the
-- residue modulo m
pub record IsCodeword (code : CheckCode) (word : List ℕ) : Type 0 where
  pub places : length word ≡ length code.weights
  pub symbols : (i : ℕ) → i < length word → Fits code i (slice_index word i)
  pub leaves : weighted_sum code.weights word % code.modulus ≡ code.residue % code.modulus

-- the word with the symbols at the places i and i + 1 exchanged
abbrev pub exchanged : List ℕ → ℕ → List ℕ
exchanged word i = slice_set (slice_set word i (slice_index word (suc i))) (suc i) (slice_index word i)

-- the symbol is the only one below m that, at the place, makes the word one of the code
pub record IsOnlySymbol (code : CheckCode) (word : List ℕ) (place symbol : ℕ) : Type 0 where
  pub below : symbol < code.modulus
  pub accepted : IsCodeword code (slice_set word place symbol)
  pub only : (t : ℕ) → t < code.modulus → IsCodeword code (slice_set word place t) → t ≡ symbol

-- the result of restoring the symbol at a place: that symbol; `None` exactly where there is none
abbrev pub IsRestored : CheckCode → List ℕ → ℕ → Option ℕ → Type 0
IsRestored code word place found =
    MatchOption found ((t : ℕ) → t < code.modulus → ¬ IsCodeword code (slice_set word place t))
    (IsOnlySymbol code word place)

-- every change of one symbol of an accepted word is detected
abbrev pub FindsEachChange : (List ℕ → Type 0) → Type 0
FindsEachChange Accepted = (word : List ℕ) (i symbol : ℕ) → Accepted word → i < length word
    → symbol ≢ slice_index word i → ¬ Accepted (slice_set word i symbol)

-- every exchange of two neighbours that differ is detected
abbrev pub FindsEachExchange : (List ℕ → Type 0) → Type 0
FindsEachExchange Accepted = (word : List ℕ) (i : ℕ) → Accepted word → suc i < length word
    → slice_index word i ≢ slice_index word (suc i) → ¬ Accepted (exchanged word i)

-- the exchanges of neighbours that aren't detected are those of symbols that are congruent modulo 5, so that they
-- are equal or differ by 5, where each is allowed at its new place
abbrev pub FindsAllButFives : CheckCode → Type 0
FindsAllButFives code = (word : List ℕ) (i : ℕ) → IsCodeword code word → suc i < length word
    → IsCodeword code (exchanged word i)
    ↔ (Fits code i (slice_index word (suc i)) × Fits code (suc i) (slice_index word i)
    × (slice_index word i % 5 ≡ slice_index word (suc i) % 5))

-- the symbol is the only one below n that, behind the word, makes it an accepted one
pub record IsCheckSymbol (n : ℕ) (Accepted : List ℕ → Type 0) (word : List ℕ) (symbol : ℕ) : Type 0 where
  pub below : symbol < n
  pub accepted : Accepted (word ++ symbol ∷ [])
  pub only : (t : ℕ) → t < n → Accepted (word ++ t ∷ []) → t ≡ symbol

-- the result of the search for it: `None` exactly where no symbol below n does
abbrev pub IsCompletion : ℕ → (List ℕ → Type 0) → List ℕ → Option ℕ → Type 0
IsCompletion n Accepted word found =
    MatchOption found ((t : ℕ) → t < n → ¬ Accepted (word ++ t ∷ [])) (IsCheckSymbol n Accepted word)
