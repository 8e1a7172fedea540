-- The results of a list of ring commands on whole numbers modulo m, and where it stops: the result sequence of a
-- straight-line program, and where it isn't executable (Bürgisser, Clausen and Shokrollahi, Algebraic Complexity
-- Theory, section 4.1). The table has no forms and no widths.
use Rattle.std.specs.Prelude.{ℕ, suc, zero, ◌+◌, ◌*◌, ◌%◌, ◌^◌, ◌<◌, ◌==◌, if◌then◌else◌, pos, ◌-ℤ◌, neg_ℤ}
use Rattle.std.specs.Prelude.{List, length, slice_get, slice_index}
use Rattle.std.specs.Prelude.{Option, Some, None, option_map, IsSomeAnd, unwrap_or}
use Rattle.modular_word.specs.Residues.{residue}
use Rattle.modular_word.specs.Inverses.{HasInverse, inverse_of}
use Rattle.modular_reduced.specs.Forms.{Represents}
pub use Rattle.modular_reduced.specs.Values.{values_of, HoldValues}
use Rattle.modular_ring.specs.declared.ring.RingCommand.{RingCommand}
use Rattle.modular_ring.specs.declared.ring.RingCommand.TheVariants.{Load, Add, Sub, Mul, Neg, Dbl, Sqr, Inv, Div, Pow}
use Rattle.modular_ring.specs.declared.ring.RunEnd.{RunEnd}
use Rattle.modular_ring.specs.declared.ring.RunEnd.TheVariants.{Done, NoInverse}

-- a command over whole numbers
abbrev pub whole : {T : Type 0} → (T → ℕ) → RingCommand T → RingCommand ℕ
whole number (Load dst n) = Load dst (number n)
whole number (Add dst a b) = Add dst a b
whole number (Sub dst a b) = Sub dst a b
whole number (Mul dst a b) = Mul dst a b
whole number (Neg dst a) = Neg dst a
whole number (Dbl dst a) = Dbl dst a
whole number (Sqr dst a) = Sqr dst a
whole number (Inv dst a) = Inv dst a
whole number (Div dst a b) = Div dst a b
whole number (Pow dst a exp) = Pow dst a (number exp)

-- the register that a command writes
abbrev pub destination_of : RingCommand ℕ → ℕ
destination_of (Load dst n) = dst
destination_of (Add dst a b) = dst
destination_of (Sub dst a b) = dst
destination_of (Mul dst a b) = dst
destination_of (Neg dst a) = dst
destination_of (Dbl dst a) = dst
destination_of (Sqr dst a) = dst
destination_of (Inv dst a) = dst
destination_of (Div dst a b) = dst
destination_of (Pow dst a exp) = dst

-- the result of a command for registers of the values v: a residue modulo m; `None` where an inverse doesn't exist
abbrev pub outcome : ℕ → (ℕ → ℕ) → RingCommand ℕ → Option ℕ
outcome m v (Load dst n) = Some (n % m)
outcome m v (Add dst a b) = Some ((v a + v b) % m)
outcome m v (Sub dst a b) = Some (residue m (pos (v a) -ℤ pos (v b)))
outcome m v (Mul dst a b) = Some ((v a * v b) % m)
outcome m v (Neg dst a) = Some (residue m (neg_ℤ (pos (v a))))
outcome m v (Dbl dst a) = Some ((2 * v a) % m)
outcome m v (Sqr dst a) = Some ((v a * v a) % m)
outcome m v (Inv dst a) = inverse_of m (v a)
outcome m v (Div dst a b) = option_map (λ y. (v a * y) % m) (inverse_of m (v b))
outcome m v (Pow dst a exp) = Some (v a ^ exp % m)

-- the value of register r after a command, if there is one, from the values v before it
abbrev pub value_after : ℕ → (ℕ → ℕ) → Option (RingCommand ℕ) → ℕ → ℕ
value_after m v None r = v r
value_after m v (Some command) r = if r == destination_of command then unwrap_or (outcome m v command) (v r) else v r

-- the value table: the value of register r after i commands, from registers with the values `start`
abbrev pub value_at : ℕ → List ℕ → List (RingCommand ℕ) → ℕ → ℕ → ℕ
value_at m start commands zero r = slice_index start r
value_at m start commands (suc i) r = value_after m (value_at m start commands i) (slice_get commands i) r

-- the register whose inverse a command needs, if it needs one
abbrev pub inverted_by : {T : Type 0} → RingCommand T → Option ℕ
inverted_by (Inv dst a) = Some a
inverted_by (Div dst a b) = Some b
inverted_by _ = None

-- the command needs an inverse that doesn't exist modulo m
abbrev pub LacksInverse : ℕ → (ℕ → ℕ) → RingCommand ℕ → Type 0
LacksInverse m v command = IsSomeAnd (inverted_by command) (λ r. HasInverse m (v r) → ⊥)

-- command number i needs an inverse that doesn't exist
abbrev pub LacksInverseAt : ℕ → List ℕ → List (RingCommand ℕ) → ℕ → Type 0
LacksInverseAt m start commands i = IsSomeAnd (slice_get commands i) (LacksInverse m (value_at m start commands i))

-- the stop: the first such command
pub record IsStop (m : ℕ) (start : List ℕ) (commands : List (RingCommand ℕ)) (i : ℕ) : Type 0 where
  pub lacks : LacksInverseAt m start commands i
  pub first : (j : ℕ) → j < i → LacksInverseAt m start commands j → ⊥

-- how many of the commands were carried out
abbrev pub carried_out : RunEnd → List (RingCommand ℕ) → ℕ
carried_out Done commands = length commands
carried_out (NoInverse at) commands = at

-- each register number of a command is below count
abbrev pub IsFit : {T : Type 0} → ℕ → RingCommand T → Type 0
IsFit count (Load dst n) = dst < count
IsFit count (Add dst a b) = (dst < count) × (a < count) × (b < count)
IsFit count (Sub dst a b) = (dst < count) × (a < count) × (b < count)
IsFit count (Mul dst a b) = (dst < count) × (a < count) × (b < count)
IsFit count (Neg dst a) = (dst < count) × (a < count)
IsFit count (Dbl dst a) = (dst < count) × (a < count)
IsFit count (Sqr dst a) = (dst < count) × (a < count)
IsFit count (Inv dst a) = (dst < count) × (a < count)
IsFit count (Div dst a b) = (dst < count) × (a < count) × (b < count)
IsFit count (Pow dst a exp) = (dst < count) × (a < count)

-- the form, if any, represents the number, if any
abbrev pub IsFormOf : {T : Type 0} → (T → ℕ) → (ℕ → ℕ → ℕ) → ℕ → Option ℕ → Option T → Type 0
IsFormOf number form m None None = Unit {0}
IsFormOf number form m (Some w) (Some f) = Represents form m (number f) w
IsFormOf number form m (Some w) None = ⊥
IsFormOf number form m None (Some f) = ⊥
