-- The pairs of a stage, and those of its first block, done one after another.
use Rattle.std.proofs.Common.{◌≡◌, ℕ, ◌+◌, ◌^◌, ◌<◌, ◌≤◌, refl, arith}
use Rattle.std.proofs.lemmas.Bool.{cases_eq}
use Rattle.modular_word.specs.Congruence.{Congruent}
use Rattle.modular_word.proofs.Congruence.{mod_refl, mod_sym, mod_trans, mod_add, mod_mul, mod_pow}
use Rattle.modular_transform.specs.Stages.{IsPair, PairDone, IsStage}

-- the same pair by other names of its values
pub pair_by_equal_values : {m u a b c d a' b' c' d' : ℕ} → a ≡ a' → b ≡ b' → c ≡ c' → d ≡ d'
    → IsPair m u a b c d → IsPair m u a' b' c' d'
pair_by_equal_values {m} {u} {a} {b} {c} {d} {a'} {b'} {c'} {d'} ea eb ec ed h = grind arith

-- .. and by a power that is congruent
pub pair_by : {m u v a b c d : ℕ} → Congruent m u v → IsPair m u a b c d → IsPair m v a b c d
pair_by is h = record {
  summed = h.summed;
  subtracted =
      mod_trans (mod_add (mod_refl _) (mod_mul (mod_refl _) (mod_sym is)))
      (mod_trans h.subtracted (mod_mul (mod_refl _) is));
}

-- from the values x to the values y, the first i pairs of a block by powers of w are done and no others
pub record PairsBelow (m w h i : ℕ) (x y : ℕ → ℕ) : Type 0 where
  pub pairs : (k : ℕ) → k < i → IsPair m (w ^ k) (x k) (x (h + k)) (y k) (y (h + k))
  pub kept : (k : ℕ) → i ≤ k → k < h → (y k ≡ x k) × (y (h + k) ≡ x (h + k))

-- one pair more
pub pairs_below_next_index : {m u w h i : ℕ} (x y z : ℕ → ℕ) → i < h → Congruent m u (w ^ i) → PairsBelow m w h i x y
    → PairDone m u i (h + i) y z → PairsBelow m w h (i + 1) x z
pairs_below_next_index {m} {u} {w} {h} {i} x y z within is before here =
    grind (
      arith,
      cases_eq,
      pair_by is (pair_by_equal_values (before.kept i (omega arith) within).0 (before.kept i (omega arith) within).1
          refl refl here.pair),
      pair_by_equal_values,
    )

-- a stage by a root that is congruent
pub stage_by : {m v w h blocks : ℕ} (x y : ℕ → ℕ) → Congruent m v w
    → IsStage m v h blocks x y → IsStage m w h blocks x y
stage_by x y is stage = record { pairs = λ p i u v. pair_by (mod_pow i is) (stage.pairs p i u v) }
