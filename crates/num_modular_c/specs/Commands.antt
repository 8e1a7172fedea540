-- Commands for C as ring commands, and which lists of them a run accepts. The names are the library's own words.
use Rattle.std.specs.Prelude.{◌≡◌, ℕ, ◌%◌, ◌<◌, ◌==◌, if◌then◌else◌, List, length, map, slice_index}
use Rattle.num_modular.specs.Ring.{value_at, IsFit}
use Rattle.num_modular.specs.declared.ring.RingCommand.{RingCommand}
use Rattle.num_modular.specs.declared.ring.RingCommand.TheVariants.{Load, Add, Sub, Mul, Neg, Dbl, Sqr, Inv, Div, Pow}
use Rattle.num_modular_c.specs.declared.commands.NmCommand.{NmCommand}
use Rattle.num_modular_c.specs.declared.commands.TheConstants.{NM_LOAD, NM_ADD, NM_SUB, NM_MUL}
use Rattle.num_modular_c.specs.declared.commands.TheConstants.{NM_NEG, NM_DBL, NM_SQR, NM_INV, NM_DIV}

-- the ring command of a command; an operation without a name counts as a power
abbrev pub ring_command_of : NmCommand → RingCommand ℕ
ring_command_of c =
    if c.operation == NM_LOAD then Load c.dst c.n
    else if c.operation == NM_ADD then Add c.dst c.a c.b
    else if c.operation == NM_SUB then Sub c.dst c.a c.b
    else if c.operation == NM_MUL then Mul c.dst c.a c.b
    else if c.operation == NM_NEG then Neg c.dst c.a
    else if c.operation == NM_DBL then Dbl c.dst c.a
    else if c.operation == NM_SQR then Sqr c.dst c.a
    else if c.operation == NM_INV then Inv c.dst c.a
    else if c.operation == NM_DIV then Div c.dst c.a c.b
    else Pow c.dst c.a c.n

-- the command has one of the ten operations, 0 for a load to 9 for a power, and register numbers below count
abbrev pub IsAdmittedBy : ℕ → NmCommand → Type 0
IsAdmittedBy count c = (c.operation < 10) × IsFit count (ring_command_of c)

-- the residues of words modulo m
abbrev pub residues_of : ℕ → List ℕ → List ℕ
residues_of m words = map (λ x. x % m) words

-- so many commands were carried out, and the registers hold the values after them
pub record IsRunTo (m : ℕ) (start : List ℕ) (commands : List (RingCommand ℕ)) (at done : ℕ)
    (registers : List ℕ) : Type 0 where
  pub carried_out : done ≡ at
  pub values : (n : ℕ) → n < length registers → slice_index registers n ≡ value_at m start commands at n
