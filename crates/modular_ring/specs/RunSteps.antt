-- What the steps of `run` ask of each other: the register that it wrote last is kept beside the list.
use Rattle.std.specs.Prelude.{◌≡◌, ℕ, ◌<◌, ◌≤◌, All, Bool, IsTrue, IsFalse, List, length, map, slice_index_or}
use Rattle.modular_reduced.specs.declared.reducer.Reducer as reducer
use Rattle.modular_reduced.specs.Checked.{AreChecked}
use Rattle.modular_ring.specs.Ring.{HoldValues, value_at, IsFit, LacksInverseAt, whole}
use Rattle.modular_ring.specs.declared.ring.Last.{Last}
use Rattle.modular_ring.specs.declared.ring.RingCommand.{RingCommand}
use Rattle.modular_ring.specs.declared.ring.RingCommand.TheVariants.{Add, Sub, Mul}

-- register n, if there is one, holds the form
abbrev pub IsHeldAt : {T : Type 0} → List T → ℕ → T → Type 0
IsHeldAt registers n form = n < length registers → form ≡ slice_index_or registers n form

-- the command writes a sum, a difference or a product
abbrev pub Combines : {T : Type 0} → RingCommand T → Type 0
Combines (Add dst a b) = Unit {0}
Combines (Sub dst a b) = Unit {0}
Combines (Mul dst a b) = Unit {0}
Combines _ = ⊥

-- what the entries of a list represent, over whole numbers
abbrev pub wholes_of : {T C : Type 0} → (T → ℕ) → (C → RingCommand T) → List C → List (RingCommand ℕ)
wholes_of number command_of commands = map (λ c. whole number (command_of c)) commands

-- the registers hold their values after `at` commands, none of which lacks its inverse
pub record IsReached {R T C : Type 0} (ring : reducer.Ghosts R T) (number : T → ℕ) (command_of : C → RingCommand T)
    (r : R) (commands : List C) (start : List ℕ) (registers : List T) (at : ℕ) : Type 0 where
  pub held : HoldValues number ring.form (ring.modulus r) registers
      (value_at (ring.modulus r) start (wholes_of number command_of commands) at)
  pub passed : (j : ℕ) → j < at → LacksInverseAt (ring.modulus r) start (wholes_of number command_of commands) j → ⊥

-- the commands before number `end` may be carried out: the forms are checked, the numbers of registers and of commands
-- fit, and the register that was written last holds its form
pub record MayGoOn {R T C : Type 0} (ring : reducer.Ghosts R T) (number : T → ℕ) (command_of : C → RingCommand T)
    (r : R) (commands : List C) (registers : List T) (last : Last T) (end : ℕ) : Type 0 where
  pub checked : AreChecked ring number r registers
  pub fit : All (λ c. IsFit (length registers) (command_of c)) commands
  pub holds : IsHeldAt registers last.register last.form
  pub within : end ≤ length commands

-- after `from` commands, those up to number `to` - 1 were carried out: all before `end`, or `done` is false, and number
-- `to` lacks its inverse; the registers hold their values for each start for which they did before
pub record GoesOn {R T C : Type 0} (ring : reducer.Ghosts R T) (number : T → ℕ) (command_of : C → RingCommand T)
    (r : R) (commands : List C) (before after : List T) (last : Last T) (from to end : ℕ) (done : Bool) : Type 0 where
  pub count : length after ≡ length before
  pub checked : AreChecked ring number r after
  pub holds : IsHeldAt after last.register last.form
  pub reached : (start : List ℕ) → IsReached ring number command_of r commands start before from
      → IsReached ring number command_of r commands start after to
  pub lacks : IsFalse done → (start : List ℕ) → IsReached ring number command_of r commands start before from
      → LacksInverseAt (ring.modulus r) start (wholes_of number command_of commands) to
  pub moved : IsTrue done → to ≡ end
