use Rattle.std.proofs.Common.{◌≡◌, ℕ, ◌+◌, ◌*◌, ◌/◌, ◌<◌, ◌≤◌, All, length}
use Rattle.modular_plan_passes.specs.Plans.{numbers, constant, AreTwiddles}
use Rattle.modular_plan_transforms.specs.Products.{product_modulo}
use Rattle.modular_plan_transforms.proofs.products.multiply_pairs.Given as goal

-- the first j blocks are done
abbrev pub invariant-each_block : goal.invariant-each_block
invariant-each_block g l =
    let number = g.T.RingWord.number in
    let value = g.F.PlanEntry.value in
    let m = number l.m.modulus in
    let x = numbers number l.fn.xs in
    let y = numbers number l.ys in
    record {
      below : All (λ x. number x < m) l.xs;
      done : (g z : ℕ) → AreTwiddles m g z (length l.table) (numbers value l.table) → (j i : ℕ)
          → j < l.j → i < 2
          → numbers number l.xs (j * 2 + i) ≡ product_modulo m 2 (constant g z (l.b * (length l.fn.xs / 2) + j))
          (λ k. x (j * 2 + k)) (λ k. y (j * 2 + k)) i;
      kept : (k : ℕ) → l.j * 2 ≤ k → numbers number l.xs k ≡ x k;
    }
