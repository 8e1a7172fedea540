-- Two runs of one list from one start.
use Rattle.std.proofs.Common.{◌≡◌, ℕ, ◌<◌, List, length, get_or, refl, sym, arith, ◌↔◌}
use Rattle.std.proofs.lemmas.Grind.{same_number_lists}
use Rattle.std.proofs.lemmas.List.{length-map}
use Rattle.modular_ring.specs.declared.ring.RingCommand.{RingCommand}
use Rattle.modular_ring.specs.declared.ring.RunEnd.{RunEnd}
use Rattle.modular_ring.specs.declared.ring.RunEnd.TheVariants.{Done, NoInverse}
use Rattle.modular_ring.specs.Ring.{value_at, IsStop, carried_out, values_of}

-- what a run says of its end and of the residues that it leaves
pub record IsRun (m : ℕ) (start : List ℕ) (commands : List (RingCommand ℕ)) (end : RunEnd)
    (left : List ℕ) : Type 0 where
  pub stops : (at : ℕ) → (end ≡ NoInverse at) ↔ IsStop m start commands at
  pub done : (end ≡ Done) ↔ ((at : ℕ) → IsStop m start commands at → ⊥)
  pub count : length left ≡ length start
  pub residues : (n : ℕ) → n < length start → get_or left n 0 ≡ value_at m start commands (carried_out end commands) n

-- of registers, by the clauses of `run`
pub run_of : {T : Type 0} (number : T → ℕ) (value : ℕ → ℕ → ℕ) (m : ℕ) (old new : List T)
    (commands : List (RingCommand ℕ)) (end : RunEnd)
    → length new ≡ length old
    → ((at : ℕ) → (end ≡ NoInverse at) ↔ IsStop m (values_of number value m old) commands at)
    → ((end ≡ Done) ↔ ((at : ℕ) → IsStop m (values_of number value m old) commands at → ⊥))
    → ((n : ℕ) → n < length old → get_or (values_of number value m new) n 0
    ≡ value_at m (values_of number value m old) commands (carried_out end commands) n)
    → IsRun m (values_of number value m old) commands end (values_of number value m new)
run_of {T} number value m old new commands end kept stops done residues = search (arith, length-map)

-- equal starts and lists
pub run_as : {m m' : ℕ} {start start' : List ℕ} {commands commands' : List (RingCommand ℕ)}
    (end : RunEnd) (left : List ℕ)
    → m ≡ m' → start ≡ start' → commands ≡ commands' → IsRun m' start' commands' end left
    → IsRun m start commands end left
run_as {m} {m'} {start} {start'} {commands} {commands'} end left e f g h = search arith

pub same_end : {m : ℕ} {start : List ℕ} {commands : List (RingCommand ℕ)} (a b : RunEnd) (left right : List ℕ)
    → IsRun m start commands a left → IsRun m start commands b right → a ≡ b
same_end Done b left right p q = sym (q.done.1 (p.done.0 refl))
same_end (NoInverse i) b left right p q = sym ((q.stops i).1 ((p.stops i).0 refl))

pub runs_leave_same_residues : {m : ℕ} {start : List ℕ} {commands : List (RingCommand ℕ)} (a b : RunEnd)
    (left right : List ℕ)
    → IsRun m start commands a left → IsRun m start commands b right → left ≡ right
runs_leave_same_residues {m} {start} {commands} a b left right p q = search (arith, same_end, same_number_lists)
