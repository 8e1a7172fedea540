-- The constants_of_halves of the tree, by the entries of a root's table.
use Rattle.std.proofs.Common.{◌≡◌, ℕ, ◌+◌, ◌*◌, ◌/◌, ◌%◌, ◌<◌, ◌≤◌, ◌∙◌, ap, arith}
use Rattle.std.proofs.Math.Nat.{mul-le-mul_right}
use Rattle.modular_word.specs.Congruence.{Congruent}
use Rattle.modular_word.proofs.Congruence.{mod_sym, mod_trans, mod_add_cancel}
use Rattle.modular_plan_passes.specs.Plans.{constant, AreTwiddles}
use Rattle.modular_plan_passes.proofs.Bounds.{multiple_is_none}
use Rattle.modular_plan_passes.proofs.Levels.{constants_of_halves}

-- an entry is the constant of one block, and minus it that of the next
pub record IsPairOfConstants (m g z p w : ℕ) : Type 0 where
  pub even : Congruent m w (constant g z (2 * p))
  pub odd : (v : ℕ) → v + w ≡ m → Congruent m v (constant g z (2 * p + 1))

-- minus an entry is the constant of an odd block
pub odd_constant : {m g z count : ℕ} {w : ℕ → ℕ} (p v : ℕ) → AreTwiddles m g z count w → p < count → v + w p ≡ m
    → Congruent m v (constant g z (2 * p + 1))
odd_constant {m} {g} {z} {count} {w} p v twiddles below is = mod_add_cancel (w p)
    (mod_trans (multiple_is_none 1 (v + w p) (omega (arith, is)))
    (mod_sym (constants_of_halves g z count p w twiddles below).opposite))

pub pair_of_constants : {m : ℕ} (g z count p : ℕ) (w : ℕ → ℕ) → AreTwiddles m g z count w → p < count
    → IsPairOfConstants m g z p (w p)
pair_of_constants {m} g z count p w twiddles below = record {
  even = mod_sym (constants_of_halves g z count p w twiddles below).even_is;
  odd = λ v is. odd_constant p v twiddles below is;
}

-- the place of the entry for block b * count + j, and whether
-- the block is odd, where no number is above twice the places n
pub record IsBlock (b count j n : ℕ) : Type 0 where
  pub is : 2 * (b / 2 * count + (b % 2 * count + j) / 2) + (b % 2 * count + j) % 2 ≡ b * count + j
  pub within : b / 2 * count + (b % 2 * count + j) / 2 < n
  pub rest : b % 2 * count ≤ count

pub halved_block_index_within : (b count j n : ℕ) → j < count → (b + 1) * count ≤ 2 * n → IsBlock b count j n
halved_block_index_within b count j n below room =
    let parts : b * count ≡ 2 * (b / 2 * count) + b % 2 * count =
    ap (λ v. v * count) (let e : b ≡ 2 * (b / 2) + b % 2 = omega arith in e) ∙ omega arith in
    let rest : b % 2 * count ≤ 1 * count = mul-le-mul_right count (omega arith) in
    record { is = omega (arith, parts); within = omega (arith, parts, room, below); rest = omega (arith, rest) }
