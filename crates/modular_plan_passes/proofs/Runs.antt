-- Blocks whose indexes have the same highest bit: their factors, read from the ends of parts of a table, and the stage
-- of
-- one run of blocks after another.
use Rattle.std.proofs.Common.{◌≡◌, ℕ, suc, ◌+◌, ◌-◌, ◌*◌, ◌^◌, ◌<◌, ◌≤◌, List, ◌++◌, get_or, length, inl, inr}
use Rattle.std.proofs.Common.{arith, length-append}
use Rattle.std.proofs.lemmas.Bool.{cases_lt}
use Rattle.modular_plan_passes.specs.Plans.{numbers, AreTwiddles}
use Rattle.modular_plan_passes.specs.Joins.{AreMinusInverses}
use Rattle.modular_plan_passes.specs.Steps.{StageOfFours}
use Rattle.modular_plan_passes.proofs.Entries.{number_read}
use Rattle.modular_plan_passes.proofs.Mirrors.{mirror_of_twiddles}
use Rattle.modular_plan_passes.proofs.ListParts.{number_in_front, number_behind}

-- a part begins a list, by the numbers of their entries
pub record IsFrontOf {F : Type 0} (value : F → ℕ) (table part : List F) : Type 0 where
  pub same : (k : ℕ) → k < length part → numbers value part k ≡ numbers value table k

pub front_of : {F : Type 0} (value : F → ℕ) (table front back : List F) → table ≡ front ++ back
    → IsFrontOf value table front
front_of value table front back is = grind (arith, number_in_front)

-- the front of a front
pub shorter_front : {F : Type 0} (value : F → ℕ) (table part front back : List F) → IsFrontOf value table part
    → part ≡ front ++ back → IsFrontOf value table front
shorter_front value table part front back of is = grind (arith, length-append front back, number_in_front)

-- what is read of the end of a front
pub read_at_end : {F : Type 0} {value : F → ℕ} {table part : List F} (front back : List F) (i place : ℕ) (x : F)
    → IsFrontOf value table part → part ≡ front ++ back → length front + i ≡ place → i < length back
    → x ≡ get_or back i x → value x ≡ numbers value table place
read_at_end {F} {value} {table} {part} front back i place x of is at within read =
    grind (arith, length-append, number_behind, number_read)

-- the entries at the mirrored indexes of a block and of its halves
pub mirrored_inverses : {m : ℕ} (g z count k place other : ℕ) (w : ℕ → ℕ) → AreTwiddles m g z count w
    → 2 * place + 1 < count
    → 2 ^ k ≤ place → place < 2 * 2 ^ k → place + other + 1 ≡ 3 * 2 ^ k
    → AreMinusInverses m (w place) (w (2 * place)) (w (2 * place + 1)) (w other) (w (2 * other + 1)) (w (2 * other))
mirrored_inverses {m} g z count k place other w twiddles within least most sum =
    record {
      own = (mirror_of_twiddles g z count k place other w twiddles (omega (arith, within)) least most sum).inverse;
      low = (mirror_of_twiddles g z count (suc k) (2 * place) (2 * other + 1) w twiddles (omega (arith, within))
          (omega (arith, least)) (omega (arith, most)) (omega (arith, sum))).inverse;
      high = (mirror_of_twiddles g z count (suc k) (2 * place + 1) (2 * other) w twiddles within
          (omega (arith, least)) (omega (arith, most)) (omega (arith, sum))).inverse;
    }

-- .. as words that were read have them
pub inverses_of : {m a b c p q r p' q' r' : ℕ} → p' ≡ p → q' ≡ q → r' ≡ r → AreMinusInverses m a b c p q r
    → AreMinusInverses m a b c p' q' r'
inverses_of {m} {a} {b} {c} {p} {q} {r} {p'} {q'} {r'} ip iq ir are = grind arith

-- a stage of n blocks, and one of further blocks
pub stages_appended : {X : Type 0} (number : X → ℕ) (S : ℕ → ℕ → ℕ → ℕ → ℕ → ℕ → ℕ → ℕ → ℕ → Type 0) (first n more : ℕ)
    (a b a' b' : List X) → length a ≡ 4 * n → length a' ≡ 4 * n
    → StageOfFours (λ p. S (first + p)) 1 n (numbers number a) (numbers number a')
    → StageOfFours (λ p. S (first + n + p)) 1 more (numbers number b) (numbers number b')
    → StageOfFours (λ p. S (first + p)) 1 (n + more) (numbers number (a ++ b)) (numbers number (a' ++ b'))
stages_appended number S first n more a b a' b' la la' front back =
    let old_back = λ (k : ℕ). number_behind number a b (4 * n) k la in
    let new_back = λ (k : ℕ). number_behind number a' b' (4 * n) k la' in
    record {
      fours = λ p i l one. elim (cases_lt p n) [
        | inl less ↦ grind (arith, number_in_front, front.fours p i less one)
        | inr least ↦ grind (arith, back.fours (p - n) i (omega (arith, l)) one, old_back, new_back)
      ];
      kept = λ k l. grind (arith, old_back (k - 4 * n), new_back (k - 4 * n), back.kept (k - 4 * n));
    }
