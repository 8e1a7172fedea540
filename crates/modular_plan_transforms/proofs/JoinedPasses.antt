-- Sizes and remainders after some passes of a join, of two stages each.
use Rattle.std.proofs.Common.{◌≡◌, ℕ, ◌+◌, ◌*◌, ◌/◌, ◌%◌, ◌^◌, ◌≤◌, sym, ◌∙◌, ap, arith}
use Rattle.std.proofs.Math.Nat.{mul-div_cancel, mul-le-mul_left, mul-le-mul_right}
use Rattle.std.proofs.lemmas.Nat.{pow_pos}
use Rattle.modular_plan_passes.specs.Plans.{AreRemainders}
use Rattle.modular_plan_passes.specs.Steps.{IsLevel}
use Rattle.modular_plan_passes.proofs.TreeLevels.{IsTreeLevel, blocks_fill}
use Rattle.modular_plan_transforms.specs.PlanConditions.{AreBlocks}

-- a level has the blocks that a split or a join goes on from
pub record SizesLeft (size blocks below count length entries b : ℕ) : Type 0 where
  pub blocks_are : length / size ≡ blocks
  pub given : AreBlocks length entries b size
  pub scale : 2 ^ below * (length / size) ≡ count

pub sizes_left : {size blocks above below last count length : ℕ} (entries b : ℕ)
    → IsTreeLevel size blocks above below last count length → (b + 1) * (count / 2) ≤ entries
    → SizesLeft size blocks below count length entries b
sizes_left {size} {blocks} {above} {below} {last} {count} {length} entries b tree room =
    let some : 1 ≤ size = omega (arith, mul-le-mul_right last (pow_pos below), tree.sized, tree.some) in
    let is : length / size ≡ blocks = ap (λ v. v / size) (sym (blocks_fill tree)) ∙ mul-div_cancel blocks some in
    let few : length / size / 2 ≤ count / 2 = omega (arith, is, mul-le-mul_left blocks (pow_pos below), tree.counted) in
    record {
      blocks_are = is;
      given = record {
        some = some;
        count = (above, is ∙ tree.blocks_are);
        whole = ap (λ v. v * size) is ∙ blocks_fill tree;
        within = omega (arith, mul-le-mul_left (b + 1) few, room);
      };
      scale = ap (λ v. 2 ^ below * v) is ∙ omega (arith, tree.counted);
    }

-- the remainders that a level has
pub remainders_of_level : {m : ℕ} (g z b count size blocks : ℕ) (x y : ℕ → ℕ) → count ≡ blocks
    → IsLevel m g z b blocks size x y → AreRemainders m g z b count size x (λ i. y i % m)
remainders_of_level {m} g z b count size blocks x y is level = grind arith
