-- Products by a table as block 0 and as block 1, in the words of their calls.
use Rattle.std.proofs.Common.{◌≡◌, ℕ, ◌-◌, ◌<◌, List, length, ◌∙◌, arith}
use Rattle.std.proofs.lemmas.Nat.{pow_pos}
use Rattle.modular_plan_passes.specs.Plans.{constant}
use Rattle.modular_plan_transforms.specs.Products.{product_modulo}
use Rattle.modular_plan_transforms.proofs.Convolutions.{product_is_cyclic, block_one_is_negacyclic}
use Rattle.num_modular.specs.Transforms.{cyclic_product}
use Rattle.num_modular_c.specs.Plans.{FitPlannedProduct, HasTwiddles, IsPlannedProduct}
use Rattle.num_modular_c.specs.declared.plans.NmFactor.{NmFactor}

as_other : {m b last : ℕ} {table : List NmFactor} {p q : ℕ → ℕ → ℕ → ℕ} {others words new_others : List ℕ}
    → ((g z e : ℕ) → HasTwiddles m g z table → e < length words → p g z e ≡ q g z e)
    → IsPlannedProduct m b last table p others words new_others
    → IsPlannedProduct m b last table q others words new_others
as_other same is = record {
  below = is.below;
  product = λ g z e twiddles l. is.product g z e twiddles l ∙ same g z e twiddles l;
  others_below = is.others_below;
  remainders = is.remainders;
}

pub as_cyclic : (n : ℕ) (x y : ℕ → ℕ) {m last : ℕ} {table : List NmFactor} {others words new_others : List ℕ}
    → length words ≡ n
    → IsPlannedProduct m 0 last table (λ g z e. product_modulo m n (constant g z 0) x y e) others words new_others
    → IsPlannedProduct m 0 last table (λ g z e. cyclic_product m n x y e) others words new_others
as_cyclic n x y {m} all is =
    as_other (λ g z e twiddles l. product_is_cyclic m n e g z x y (omega (arith, all, l))) is

pub as_negacyclic : (n : ℕ) (x y : ℕ → ℕ) {m last : ℕ} {table : List NmFactor}
    {lefts rights others words new_others : List ℕ}
    → FitPlannedProduct m (length table) 1 last lefts rights
    → IsPlannedProduct m 1 last table (λ g z e. product_modulo m n (constant g z 1) x y e) others words new_others
    → IsPlannedProduct m 1 last table (λ g z e. product_modulo m n (m - 1) x y e) others words new_others
as_negacyclic n x y {last = last} {table} pair is =
    let within = rw pair.blocks.count.1 at pair.blocks.within in
    let some : 0 < length table = omega (arith, within, pow_pos pair.blocks.count.0) in
    as_other (λ g z e twiddles l. block_one_is_negacyclic n e g z (length table) _ x y pair.admitted.0 some twiddles) is
