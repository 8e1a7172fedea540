-- Pairs that are joined, and what is reduced before and afterwards.
use Rattle.std.proofs.Common.{◌≡◌, ℕ, ◌+◌, ◌*◌, arith}
use Rattle.modular_word.specs.Congruence.{Congruent}
use Rattle.modular_word.proofs.Congruence.{mod_of_eq, mod_refl, mod_sym, mod_trans, mod_add, mod_mul, mod_add_cancel}
use Rattle.modular_plan_passes.specs.Joins.{IsPairJoin, IsMinusInverse}

-- the sum of a pair, and its difference times v, minus the inverse of w: by a multiple of m
pub joined_pair_of : {m : ℕ} (w v a b rest bound product sum : ℕ) → Congruent m bound 0 → rest + a ≡ bound → sum ≡ a + b
    → Congruent m product ((b + rest) * v) → IsMinusInverse m w v → IsPairJoin m w a b sum product
joined_pair_of {m} w v a b rest bound product sum none is_rest is_sum is_product inverse =
    let spread : (b + rest) * v * w + b + rest ≡ (b + rest) * (w * v + 1) = omega arith in
    let all : Congruent m (product * w + b + rest) ((b + rest) * 0) =
    mod_trans (mod_add (mod_add (mod_mul is_product (mod_refl w)) (mod_refl b)) (mod_refl rest))
    (mod_trans (mod_of_eq spread) (mod_mul (mod_refl (b + rest)) inverse.product)) in
    let whole : Congruent m (a + rest) 0 = grind arith in
    record {
      summed = mod_of_eq is_sum;
      subtracted = mod_add_cancel rest (mod_trans all (mod_trans (mod_of_eq (omega arith)) (mod_sym whole)));
    }

-- a pair whose sum is reduced
pub joined_pair_reduced : {m : ℕ} (w a b sum product sum' : ℕ) → Congruent m sum' sum → IsPairJoin m w a b sum product
    → IsPairJoin m w a b sum' product
joined_pair_reduced w a b sum product sum' is pair = grind arith

-- a pair that was reduced before
pub joined_pair_along : {m : ℕ} (w a b x y sum product : ℕ) → Congruent m x a → Congruent m y b
    → IsPairJoin m w x y sum product → IsPairJoin m w a b sum product
joined_pair_along {m} w a b x y sum product first second pair = grind (arith, mod_trans, mod_add, mod_refl, mod_sym)

-- the sum and the difference of a pair that is joined by 1, by a multiple of m
pub joined_by_one : {m : ℕ} (a b bound sum difference : ℕ) → Congruent m bound 0 → sum ≡ a + b
    → difference + b ≡ a + bound → IsPairJoin m 1 a b sum difference
joined_by_one {m} a b bound sum difference none is_sum is_difference =
    grind (arith, mod_of_eq, mod_add (mod_refl a) none)

-- a pair whose two results are reduced
pub joined_pair_up_to : {m : ℕ} (w a b sum quotient sum' quotient' : ℕ) → Congruent m sum' sum
    → Congruent m quotient' quotient → IsPairJoin m w a b sum quotient → IsPairJoin m w a b sum' quotient'
joined_pair_up_to {m} w a b sum quotient sum' quotient' first second pair =
    search (arith, mod_trans, mod_add, mod_mul, mod_refl)

-- a pair times a number
pub joined_pair_scaled : {m : ℕ} (w a b sum quotient s : ℕ) → IsPairJoin m w a b sum quotient
    → IsPairJoin m w (a * s) (b * s) (sum * s) (quotient * s)
joined_pair_scaled {m} w a b sum quotient s pair =
    grind (arith, mod_mul pair.summed (mod_refl s), mod_mul pair.subtracted (mod_refl s))
