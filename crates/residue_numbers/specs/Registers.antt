-- Registers of a residue system, in one list: the residues of register 0 first, then those of register 1, and so on. The
-- names are the library's own words.
use Rattle.std.specs.Prelude.{◌≡◌, ℕ, ◌+◌, ◌*◌, ◌%◌, ◌<◌, List, length, map, slice_index, slice_range}
use Rattle.num_modular.specs.declared.ring.RingCommand.{RingCommand}
use Rattle.num_modular.specs.Ring.{LacksInverseAt, value_at}
use Rattle.num_modular.specs.Systems.{range_of, AreResidues}

-- the words of register r, in a list that has n words for each
abbrev pub register : ℕ → List ℕ → ℕ → List ℕ
register n words r = slice_range words (r * n) (r * n + n)

-- the words are congruent to x
pub record AreCongruent (moduli words : List ℕ) (x : ℕ) : Type 0 where
  pub each : (i : ℕ) → i < length moduli → slice_index words i % slice_index moduli i ≡ x % slice_index moduli i

-- each register has words that are congruent to its number
pub record StartWith (moduli words numbers : List ℕ) : Type 0 where
  pub each : (r : ℕ) → r < length numbers → AreCongruent moduli (register (length moduli) words r) (slice_index numbers r)

-- of the first `count` commands, the first `done` can be carried out, and no more: none of them needs an inverse that doesn't
-- exist modulo m, and the next one, if there is one, does
pub record IsCarriedOut (m : ℕ) (start : List ℕ) (commands : List (RingCommand ℕ)) (count done : ℕ) : Type 0 where
  pub before : (i : ℕ) → i < done → LacksInverseAt m start commands i → ⊥
  pub next : done < count → LacksInverseAt m start commands done

-- the value of register r after `done` commands, modulo the modulus at a place
abbrev pub value_modulo : List ℕ → ℕ → List ℕ → List (RingCommand ℕ) → ℕ → ℕ → ℕ
value_modulo moduli place start commands done r =
    value_at (slice_index moduli place) (map (λ n. n % slice_index moduli place) start) commands done r

-- of the first `count` commands `done` are carried out modulo the modulus at a place, and the registers hold the values there
pub record IsColumnRun (moduli : List ℕ) (place : ℕ) (start : List ℕ) (commands : List (RingCommand ℕ)) (count : ℕ)
    (registers : List ℕ) (done : ℕ) : Type 0 where
  pub carried : IsCarriedOut (slice_index moduli place) (map (λ n. n % slice_index moduli place) start) commands count done
  pub values : (r : ℕ) → r < length start
      → slice_index registers (r * length moduli + place) ≡ value_modulo moduli place start commands done r

-- the commands are carried out modulo the range, `done` of them, and each register holds the residues of its value
pub record IsRun (moduli start : List ℕ) (commands : List (RingCommand ℕ)) (registers : List ℕ) (done : ℕ) : Type 0 where
  pub carried : IsCarriedOut (range_of moduli) start commands (length commands) done
  pub residues : (r : ℕ) → r < length start
      → AreResidues moduli (register (length moduli) registers r) (value_at (range_of moduli) start commands done r)
