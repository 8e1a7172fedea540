-- Which inverses the commands of a list need. The names are the library's own words.
use Rattle.std.specs.Prelude.{◌≡◌, ℕ, List, slice_get, Some, IsSomeAnd}
use Rattle.modular_ring.specs.declared.ring.RingCommand.{RingCommand}
use Rattle.modular_ring.specs.Ring.{inverted_by}

-- command number i needs the inverse of register r
abbrev pub NeedsInverse : {T : Type 0} → List (RingCommand T) → ℕ → ℕ → Type 0
NeedsInverse commands i r = IsSomeAnd (slice_get commands i) (λ command. inverted_by command ≡ Some r)
