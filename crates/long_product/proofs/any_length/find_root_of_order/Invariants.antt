use Rattle.std.proofs.Common.{ℕ, ◌<◌, ◌≤◌}
use Rattle.num_modular.specs.Roots.{root_by}
use Rattle.long_product.specs.AnyLength.{IsRootOfOrder}
use Rattle.long_product.proofs.any_length.find_root_of_order.Given as goal

-- the numbers from 2 to x - 1 are tried
abbrev pub invariant-bases : goal.invariant-bases
invariant-bases l = record {
  tried : (y : ℕ) → 2 ≤ y → y < l.x → IsRootOfOrder l.m (root_by l.m l.n y) l.n → ⊥;
}
