-- What the program `modrun` prints, and its exit status, for the words after its name. A text is the list of its
-- bytes. The names are the library's own words.
use Rattle.std.specs.Prelude.{◌≡◌, ℕ, zero, suc, ◌<◌, List, [], ◌∷◌, ◌++◌, replicate, codes}
use Rattle.std.specs.Borrow.{Bor}
use Rattle.std.specs.Fmt.{decimal}
use Rattle.modular_ring.specs.declared.ring.RingCommand.{RingCommand}
use Rattle.num_modular.specs.declared.modrun.Fault.{Fault}
use Rattle.num_modular.specs.declared.modrun.Fault.TheVariants.{Unreadable, OutOfMemory}
use Rattle.num_modular.specs.declared.modrun.ReducerName.{ReducerName}
use Rattle.num_modular.specs.declared.modrun.ReducerName.TheVariants.{Vanilla, PreMul, Montgomery}
use Rattle.modular_ring.specs.declared.ring.RunEnd.{RunEnd}
use Rattle.modular_ring.specs.declared.ring.RunEnd.TheVariants.{Done, NoInverse}
use Rattle.modular_ring.specs.Ring.{IsStop, value_at, carried_out}
use Rattle.num_modular.specs.Words.{IsNumberText, IsCommandWord}

-- the name of a reducer
abbrev pub reducer_name : ReducerName → List ℕ
reducer_name Vanilla = codes "vanilla"
reducer_name PreMul = codes "premul"
reducer_name Montgomery = codes "montgomery"

-- the words denote the commands, one for each
abbrev pub AreCommands : List (Bor (List ℕ)) → List (RingCommand ℕ) → Type 0
AreCommands [] [] = Unit {0}
AreCommands (word ∷ words) (command ∷ commands) = IsCommandWord word.now command × AreCommands words commands
AreCommands [] (command ∷ commands) = ⊥
AreCommands (word ∷ words) [] = ⊥

-- why the commands aren't read: the words denote none, or an allocation failed
abbrev pub IsFault : List (Bor (List ℕ)) → Fault → Type 0
IsFault words Unreadable = (commands : List (RingCommand ℕ)) → AreCommands words commands → ⊥
IsFault words OutOfMemory = Unit {0}

-- the words are the name of the reducer, the modulus, which isn't 0, and the words of commands
pub record IsHeading (words : List (Bor (List ℕ))) (reducer : ReducerName) (m : ℕ)
    (rest : List (Bor (List ℕ))) : Type 0 where
  pub name : Bor (List ℕ)
  pub modulus : Bor (List ℕ)
  pub split : words ≡ name ∷ modulus ∷ rest
  pub named : name.now ≡ reducer_name reducer
  pub read : IsNumberText modulus.now m
  pub positive : 0 < m

-- the words denote the commands modulo m
pub record Ask (words : List (Bor (List ℕ))) (m : ℕ) (commands : List (RingCommand ℕ)) : Type 0 where
  pub reducer : ReducerName
  pub rest : List (Bor (List ℕ))
  pub heading : IsHeading words reducer m rest
  pub read : AreCommands rest commands

-- the residues with which the eight registers start
abbrev pub zeros : List ℕ
zeros = replicate 8 0

-- the end of a run of the commands modulo m
abbrev pub IsEnd : ℕ → List (RingCommand ℕ) → RunEnd → Type 0
IsEnd m commands Done = (at : ℕ) → IsStop m zeros commands at → ⊥
IsEnd m commands (NoInverse at) = IsStop m zeros commands at

-- the numbers from v 0 to v i in decimal, with single spaces between
abbrev pub numbers_to : (ℕ → ℕ) → ℕ → List ℕ
numbers_to v zero = decimal (v 0)
numbers_to v (suc i) = numbers_to v i ++ (32 ∷ decimal (v (suc i)))

-- the numbers from v 0 to v 7, and a line end
abbrev pub line_of : (ℕ → ℕ) → List ℕ
line_of v = numbers_to v 7 ++ (10 ∷ [])

-- the line with the values after a run
abbrev pub printed : ℕ → List (RingCommand ℕ) → RunEnd → List ℕ
printed m commands end = line_of (value_at m zeros commands (carried_out end commands))

-- the status of an end
abbrev pub status_of : RunEnd → ℕ
status_of Done = 0
status_of (NoInverse at) = 1

-- the text that says how a run ended
abbrev pub told : RunEnd → List ℕ
told Done = []
told (NoInverse at) = codes "no inverse at command " ++ (decimal at ++ (10 ∷ []))

-- the text that says how to call the program
abbrev pub usage : List ℕ
usage = codes "usage: modrun REDUCER MODULUS COMMAND...\n"

-- a run of the commands modulo m, with its status and what it writes to the two outputs
pub record IsRun (m : ℕ) (commands : List (RingCommand ℕ)) (status : ℕ) (Out Err : List ℕ → Type 0) : Type 0 where
  pub end : RunEnd
  pub ended : IsEnd m commands end
  pub answered : status ≡ status_of end
  pub output : Out (printed m commands end)
  pub error : Err (told end)

-- what the program does for words that denote commands as Asked says; `untouched` says that nothing is written to
-- the first output
pub record IsAnswer (Asked : ℕ → List (RingCommand ℕ) → Type 0) (untouched : Type 0)
    (Out Err : List ℕ → Type 0) (status : ℕ) : Type 0 where
  pub ran : status < 2
      → (m : ℕ) × (commands : List (RingCommand ℕ)) × Asked m commands × IsRun m commands status Out Err
  pub unreadable : status ≡ 2
      → ((m : ℕ) (commands : List (RingCommand ℕ)) → Asked m commands → ⊥) × untouched × Err usage
  pub memory : status ≡ 3 → untouched × Err (codes "out of memory\n")
  pub range : status < 4
