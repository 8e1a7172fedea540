-- Indexes within a list of roots, the stages that are left, and offsets in bytes.
use Rattle.std.proofs.Common.{◌≡◌, ℕ, ◌+◌, ◌-◌, ◌*◌, ◌%◌, ◌^◌, ◌<◌, ◌≤◌, arith}
use Rattle.modular_reduced.proofs.PowerCounts.{self_below}
use borrow.Author.Rules.{scaled_Fits}
use mir.Syntax.{w64}
use mir.Val.{Fits}

-- the root of a stage lies no farther than an entry of the list
pub stage_offset : (size : ℕ) {i z n : ℕ} → i < z → n ≡ 2 ^ z → n * size < 2 ^ 63 → Fits w64 (i * size)
stage_offset size {i} {z} {n} within whole room =
    let many = self_below z in scaled_Fits i n size (omega (arith, many, within, whole)) room

-- two stages are left where one is, since their number is even
pub two_left : {done z : ℕ} → (z - done) % 2 ≡ 0 → done < z → done + 2 ≤ z
two_left even more = omega (arith, even, more)

pub record StagesLeft (done z : ℕ) : Type 0 where
  pub next : done + 1 < z
  pub turn : z - 2 < z
  pub two : 2 ≤ z

pub stages_left : {done z : ℕ} → (z - done) % 2 ≡ 0 → done < z → StagesLeft done z
stages_left even more = grind (arith, two_left)

-- an index of a list is none past another of the same length
pub index_within_equal_length : {i m n : ℕ} → i < m → m ≡ n → i ≤ n
index_within_equal_length within same = omega (arith, within, same)
