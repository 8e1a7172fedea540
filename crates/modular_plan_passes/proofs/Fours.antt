-- Two stages at once: four entries make blocks, and blocks make stages.
use Rattle.std.proofs.Common.{◌≡◌, ℕ, ◌+◌, ◌-◌, ◌*◌, ◌<◌, List, length, refl, arith, subst}
use Rattle.std.proofs.Math.ListN.{set, length-set}
use Rattle.modular_plan_passes.specs.Plans.{numbers}
use Rattle.modular_plan_passes.specs.Splits.{FourDoneWithin}
use Rattle.modular_plan_passes.specs.Steps.{IsPairSplit, IsFourSplit, FourDone, BlockOfFours, StageOfFours}
use Rattle.modular_plan_passes.proofs.Entries.{number_written, number_not_written}

-- a split of four entries by those of its pairs
pub four_of_pairs : {m : ℕ} (w u v : ℕ) {a b c d a' b' c' d' e f g h p q r s : ℕ} → a' ≡ a → b' ≡ b → c' ≡ c → d' ≡ d
    → IsPairSplit m w a' c' e g → IsPairSplit m w b' d' f h → IsPairSplit m u e f p q → IsPairSplit m v g h r s
    → IsFourSplit m w u v a b c d p q r s
four_of_pairs {m} w u v {a} {b} {c} {d} {a'} {b'} {c'} {d'} {e} {f} {g} {h} {p} {q} {r} {s} ia ib ic id
    first second low high = grind arith

-- what four writes leave
pub written_four_is_done : {T : Type 0} (number : T → ℕ) (R : ℕ → ℕ → ℕ → ℕ → ℕ → ℕ → ℕ → ℕ → Type 0) (words : List T)
    (i j k l : ℕ) (a b c d : T) → i < j → j < k → k < l → l < length words
    → R (numbers number words i) (numbers number words j) (numbers number words k) (numbers number words l) (number a)
    (number b) (number c) (number d)
    → FourDone R i j k l (numbers number words) (numbers number (set (set (set (set words l d) k c) j b) i a))
written_four_is_done number R words i j k l a b c d ij jk kl within four =
    grind (arith, set, length-set, number_written, number_not_written)

pub relation_of_equal_numbers : (R : ℕ → ℕ → ℕ → ℕ → ℕ → ℕ → ℕ → ℕ → Type 0) {a b c d e f g h a' b' c' d' e' f' g' h'
    : ℕ} → a ≡ a'
    → b ≡ b' → c ≡ c' → d ≡ d' → e ≡ e' → f ≡ f' → g ≡ g' → h ≡ h'
    → R a b c d e f g h → R a' b' c' d' e' f' g' h'
relation_of_equal_numbers R {a} {b} {c} {d} {e} {f} {g} {h} {a'} {b'} {c'} {d'} {e'} {f'} {g'} {h'} pa pb pc pd pe pf pg
    ph r =
    grind arith

-- a block of what follows
pub block_mapped : {R S : ℕ → ℕ → ℕ → ℕ → ℕ → ℕ → ℕ → ℕ → Type 0} {first q : ℕ} {x y : ℕ → ℕ}
    → ((a b c d a' b' c' d' : ℕ) → R a b c d a' b' c' d' → S a b c d a' b' c' d') → BlockOfFours R first q q x y
    → BlockOfFours S first q q x y
block_mapped {R} {S} {first} {q} {x} {y} follows step = grind arith

-- four neighbours are a block of four
pub neighbours_done : {R : ℕ → ℕ → ℕ → ℕ → ℕ → ℕ → ℕ → ℕ → Type 0} {bound : ℕ} (first : ℕ) {x y : ℕ → ℕ}
    → FourDone (FourDoneWithin bound R) first (first + 1) (first + 2) (first + 3) x y → BlockOfFours R first 1 1 x y
neighbours_done {R} {bound} first {x} {y} step = grind arith

-- the neighbours of one more block are below a bound
pub neighbours_below : {R : ℕ → ℕ → ℕ → ℕ → ℕ → ℕ → ℕ → ℕ → Type 0} {bound : ℕ} (p : ℕ) {x y : ℕ → ℕ}
    → ((k : ℕ) → k < p * 4 → x k < bound)
    → FourDone (FourDoneWithin bound R) (p * 4) (p * 4 + 1) (p * 4 + 2) (p * 4 + 3) x y
    → (k : ℕ) → k < (p + 1) * 4 → y k < bound
neighbours_below {R} {bound} p {x} {y} before step k l = grind arith

pub stage_of_fours_none : (R : ℕ → ℕ → ℕ → ℕ → ℕ → ℕ → ℕ → ℕ → ℕ → Type 0) (q : ℕ) (x : ℕ → ℕ) → StageOfFours R q 0 x x
stage_of_fours_none R q x = record { fours = λ p i l k. absurd (omega arith); kept = λ k l. refl }

-- one more block
pub stage_of_fours_more : (R : ℕ → ℕ → ℕ → ℕ → ℕ → ℕ → ℕ → ℕ → ℕ → Type 0) (q p : ℕ) (x y z : ℕ → ℕ)
    → StageOfFours R q p x y
    → BlockOfFours (R p) (p * (q + q + (q + q))) q q y z → StageOfFours R q (p + 1) x z
stage_of_fours_more R q p x y z done step = grind arith

pub stage_of_fours_all : {R : ℕ → ℕ → ℕ → ℕ → ℕ → ℕ → ℕ → ℕ → ℕ → Type 0} {q p blocks : ℕ} {x y : ℕ → ℕ}
    → StageOfFours R q p x y → p ≡ blocks → StageOfFours R q blocks x y
stage_of_fours_all {R} {q} {p} {blocks} {x} {y} done e = subst (λ n. StageOfFours R q n x y) e done

-- the whole list as one block is a stage by factors w that begin with 1
pub first_stage : (R : ℕ → ℕ → ℕ → ℕ → ℕ → ℕ → ℕ → ℕ → ℕ → ℕ → ℕ → Type 0) (q v first blocks : ℕ) (w x y : ℕ → ℕ)
    → first ≡ 0 → blocks ≡ 1 → w 0 ≡ 1 → v ≡ w 1 → BlockOfFours (R 1 1 v) 0 q q x y
    → StageOfFours (λ p. R (w (first + p)) (w (2 * (first + p))) (w (2 * (first + p) + 1))) q blocks x y
first_stage R q v first blocks w x y no_first one_block begins second block = grind arith

-- what holds of the places of both halves holds of all
pub of_halves : (P : ℕ → Type 0) (half e : ℕ) → e < half + half → ((i : ℕ) → i < half → P i)
    → ((i : ℕ) → i < half → P (half + i)) → P e
of_halves P half e l low high = grind (arith, low e, high (e - half))
