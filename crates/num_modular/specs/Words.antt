-- The text form of numbers and ring commands; a text is the list of its bytes. Numbers are in positional notation
-- (Knuth, The Art of Computer Programming, volume 2, section 4.1), and a command is its name and its numbers, with
-- a comma before each number.
use Rattle.std.specs.Prelude.{◌≡◌, ℕ, ◌<◌, ◌^◌, ◌==◌, List, [], ◌∷◌, Option, MatchOption, codes}
use Rattle.std.specs.List.{slice_split}
use Rattle.std.specs.Str.Parse.{IsNumeral, digits_value}
use Rattle.modular_ring.specs.Ring.{IsFit}
use Rattle.modular_ring.specs.declared.ring.RingCommand.{RingCommand}
use Rattle.modular_ring.specs.declared.ring.RingCommand.TheVariants.{Load, Add, Sub, Mul, Neg, Dbl, Sqr, Inv, Div, Pow}

-- the text is one or more ASCII digits, which denote n, and n fits a word of 64 bits
pub record IsNumberText (text : List ℕ) (n : ℕ) : Type 0 where
  pub numeral : IsNumeral 10 text
  pub value : n ≡ digits_value 10 text
  pub fits : n < 2 ^ 64

-- the texts denote the numbers, one for each
abbrev pub AreNumberTexts : List (List ℕ) → List ℕ → Type 0
AreNumberTexts [] [] = Unit {0}
AreNumberTexts (text ∷ texts) (n ∷ ns) = IsNumberText text n × AreNumberTexts texts ns
AreNumberTexts [] (n ∷ ns) = ⊥
AreNumberTexts (text ∷ texts) [] = ⊥

-- the parts of a text between its commas
abbrev pub parts : List ℕ → List (List ℕ)
parts text = slice_split (λ b. b == 44) text

-- the text is a numeral of n, a comma and the rest
pub record IsReadAs (text : List ℕ) (n : ℕ) (rest : List ℕ) : Type 0 where
  pub first : List ℕ
  pub split : parts text ≡ first ∷ parts rest
  pub number : IsNumberText first n

-- the name of a command
abbrev pub name_of : RingCommand ℕ → List ℕ
name_of (Load dst n) = codes "load"
name_of (Add dst a b) = codes "add"
name_of (Sub dst a b) = codes "sub"
name_of (Mul dst a b) = codes "mul"
name_of (Neg dst a) = codes "neg"
name_of (Dbl dst a) = codes "dbl"
name_of (Sqr dst a) = codes "sqr"
name_of (Inv dst a) = codes "inv"
name_of (Div dst a b) = codes "div"
name_of (Pow dst a exp) = codes "pow"

-- the numbers after the name, in order
abbrev pub numbers_of : RingCommand ℕ → List ℕ
numbers_of (Load dst n) = dst ∷ n ∷ []
numbers_of (Add dst a b) = dst ∷ a ∷ b ∷ []
numbers_of (Sub dst a b) = dst ∷ a ∷ b ∷ []
numbers_of (Mul dst a b) = dst ∷ a ∷ b ∷ []
numbers_of (Neg dst a) = dst ∷ a ∷ []
numbers_of (Dbl dst a) = dst ∷ a ∷ []
numbers_of (Sqr dst a) = dst ∷ a ∷ []
numbers_of (Inv dst a) = dst ∷ a ∷ []
numbers_of (Div dst a b) = dst ∷ a ∷ b ∷ []
numbers_of (Pow dst a exp) = dst ∷ a ∷ exp ∷ []

-- the name and the numbers are those of a command on eight registers
pub record IsCommand (name : List ℕ) (numbers : List (List ℕ)) (command : RingCommand ℕ) : Type 0 where
  pub named : name ≡ name_of command
  pub read : AreNumberTexts numbers (numbers_of command)
  pub fit : IsFit 8 command

-- the same for the parts of a word
abbrev pub IsCommandParts : List (List ℕ) → RingCommand ℕ → Type 0
IsCommandParts [] command = ⊥
IsCommandParts (name ∷ numbers) command = IsCommand name numbers command

-- the word is the name and the numbers of such a command, with a comma before each number
abbrev pub IsCommandWord : List ℕ → RingCommand ℕ → Type 0
IsCommandWord word command = IsCommandParts (parts word) command

-- a result has the property, and `None` is returned only where nothing has it
abbrev pub FindsWhere : {X : Type 0} → (X → Type 0) → Option X → Type 0
FindsWhere {X} Has found = MatchOption found ((x : X) → Has x → ⊥) Has
