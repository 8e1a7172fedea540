-- Pairs make blocks, and blocks make stages.
use Rattle.std.proofs.Common.{◌≡◌, ℕ, ◌+◌, ◌*◌, ◌%◌, ◌<◌, List, length, inl, inr, refl, ◌∙◌, arith, subst}
use Rattle.std.proofs.Math.ListN.{set, length-set}
use Rattle.std.proofs.Math.Nat.{add-mul-mod_self_right}
use Rattle.std.proofs.lemmas.Bool.{cases_eq}
use Rattle.modular_word.specs.Congruence.{Congruent}
use Rattle.modular_word.proofs.Congruence.{mod_of_eq, mod_refl, mod_sym, mod_trans, mod_add}
use Rattle.modular_word.proofs.Congruence.{mod_mul, mod_of_multiple_left}
use Rattle.modular_plan_passes.specs.Plans.{numbers}
use Rattle.modular_plan_passes.specs.Steps.{IsPairSplit, PairDone, BlockDone, StageDone}
use Rattle.modular_plan_passes.proofs.Entries.{number_written, number_not_written}

-- the sum and the difference of a pair
pub sum_and_difference_are_split : {m : ℕ} (w a b t rest sum difference : ℕ) → Congruent m t (b * w) → rest + t ≡ 2 * m
    → sum ≡ a + t → difference ≡ a + rest
    → IsPairSplit m w a b sum difference
sum_and_difference_are_split {m} w a b t rest sum difference is_t is_rest is_sum is_difference =
    let whole : difference + t ≡ a + 2 * m = omega arith in
    record {
      summed = mod_trans (mod_of_eq is_sum) (mod_add (mod_refl a) is_t);
      subtracted = mod_trans (mod_add (mod_refl difference) (mod_sym is_t))
          (mod_trans (mod_of_eq whole) (record { same = add-mul-mod_self_right a 2 m }));
    }

-- .. by 1, where a bound of b is a multiple of m
pub pair_by_one : {m : ℕ} (k a b bound sum difference : ℕ) → bound ≡ k * m → sum ≡ a + b → difference + b ≡ a + bound
    → IsPairSplit m 1 a b sum difference
pair_by_one {m} k a b bound sum difference is_bound is_sum is_difference = grind (arith, add-mul-mod_self_right a k m)

-- a word reduced by a multiple of m
pub reduced_by : {m : ℕ} (k x bound r : ℕ) → r ≡ x % bound → bound ≡ k * m → Congruent m r x
reduced_by {m} k x bound r is is_bound = record { same = grind (arith, mod_of_multiple_left m k x) }

-- a pair that was reduced before
pub split_of_congruent_values : {m : ℕ} (w a b x y sum difference : ℕ) → Congruent m x a → Congruent m y b
    → IsPairSplit m w x y sum difference → IsPairSplit m w a b sum difference
split_of_congruent_values {m} w a b x y sum difference first second pair =
    search (arith, mod_trans, mod_add, mod_mul, mod_refl, mod_sym)

-- .. and one that is reduced afterwards
pub pair_up_to : {m : ℕ} (w a b sum difference sum' difference' : ℕ) → Congruent m sum' sum
    → Congruent m difference' difference → IsPairSplit m w a b sum difference
    → IsPairSplit m w a b sum' difference'
pair_up_to {m} w a b sum difference sum' difference' first second pair = grind (arith, mod_trans, mod_add, mod_refl)

-- what a pair writes
pub pair_done_by_two_writes : {T : Type 0} (number : T → ℕ) (R : ℕ → ℕ → ℕ → ℕ → Type 0) (words : List T) (low high : ℕ)
    (sum difference : T) → low < high → high < length words
    → R (numbers number words low) (numbers number words high) (number sum) (number difference)
    → PairDone R low high (numbers number words) (numbers number (set (set words high difference) low sum))
pair_done_by_two_writes number R words low high sum difference order within pair =
    grind (arith, set, length-set, number_written, number_not_written)

pair_moved : (R : ℕ → ℕ → ℕ → ℕ → Type 0) {a b s d a' b' s' d' : ℕ} → a ≡ a' → b ≡ b' → s ≡ s'
    → d ≡ d' → R a b s d → R a' b' s' d'
pair_moved R {a} {b} {s} {d} {a'} {b'} {s'} {d'} ea eb es ed h = grind arith

pub block_none : (R : ℕ → ℕ → ℕ → ℕ → Type 0) (first half : ℕ) (x : ℕ → ℕ) → BlockDone R first half 0 x x
block_none R first half x = record { pairs = λ i l. absurd (omega arith); kept = λ k n1 n2. refl }

-- one more column
pub block_more : (R : ℕ → ℕ → ℕ → ℕ → Type 0) (first half i : ℕ) (x y after : ℕ → ℕ) → i < half
    → BlockDone R first half i x y → PairDone R (first + i) (first + (half + i)) y after
    → BlockDone R first half (i + 1) x after
block_more R first half i x y after within before step = record {
  pairs = λ k l. elim (cases_eq k i) [
    | inl e ↦ grind arith
    | inr ne ↦ grind (arith, pair_moved, before.pairs k (omega arith))
  ];
  kept = λ k n1 n2. step.kept k (n1 i (omega arith)) (n2 i (omega arith))
      ∙ before.kept k (λ n s. n1 n (omega arith)) (λ n s. n2 n (omega arith));
}

pub stage_none : (R : ℕ → ℕ → ℕ → ℕ → ℕ → Type 0) (half : ℕ) (x : ℕ → ℕ) → StageDone R half 0 x x
stage_none R half x = record { pairs = λ p i l k. absurd (omega arith); kept = λ k l. refl }

-- one more block
pub stage_more : (R : ℕ → ℕ → ℕ → ℕ → ℕ → Type 0) (half p : ℕ) (x y after : ℕ → ℕ) → StageDone R half p x y
    → BlockDone (R p) (p * (half + half)) half half y after
    → StageDone R half (p + 1) x after
stage_more R half p x y after before step = grind arith

-- all columns
pub block_all : {R : ℕ → ℕ → ℕ → ℕ → Type 0} {first half i : ℕ} {x y : ℕ → ℕ} → BlockDone R first half i x y → i ≡ half
    → BlockDone R first half half x y
block_all {R} {first} {half} {i} {x} {y} done e = subst (λ n. BlockDone R first half n x y) e done

-- a block of what follows
pub pairs_mapped : {R S : ℕ → ℕ → ℕ → ℕ → Type 0} {first half done : ℕ} {x y : ℕ → ℕ}
    → ((a b a' b' : ℕ) → R a b a' b' → S a b a' b') → BlockDone R first half done x y → BlockDone S first half done x y
pairs_mapped {R} {S} follows block = record { pairs = λ i l. follows _ _ _ _ (block.pairs i l); kept = block.kept }

-- all blocks
pub stage_all : {R : ℕ → ℕ → ℕ → ℕ → ℕ → Type 0} {half p blocks : ℕ} {x y : ℕ → ℕ} → StageDone R half p x y
    → p ≡ blocks → StageDone R half blocks x y
stage_all {R} {half} {p} {blocks} {x} {y} done e = subst (λ n. StageDone R half n x y) e done
