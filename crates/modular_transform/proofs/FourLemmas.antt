-- The fours of two stages, done one after another.
use Rattle.std.proofs.Common.{◌≡◌, ℕ, ◌+◌, ◌*◌, ◌^◌, ◌<◌, ◌≤◌, sym, ◌∙◌, ap, refl, arith, inl, inr}
use Rattle.std.proofs.lemmas.Bool.{cases_lt}
use Rattle.std.proofs.lemmas.Nat.{same_from_place, mul-le}
use Rattle.modular_word.specs.Congruence.{Congruent}
use Rattle.modular_word.proofs.Congruence.{mod_refl, mod_mul}
use Rattle.modular_transform.specs.Stages.{IsFour, FourDone}
use Rattle.modular_transform.proofs.PairLemmas.{pair_by_equal_values, pair_by}

-- from the values x to the values y, the fours of the blocks from a to b - 1 in the columns from c to d - 1 are done
-- and no others; a block has four quarters of h values
pub record FoursDone (m w v h a b c d : ℕ) (x y : ℕ → ℕ) : Type 0 where
  pub fours : (n i : ℕ) → a ≤ n → n < b → c ≤ i → i < d → IsFour m (w ^ i) (w ^ (h + i)) (v ^ i) h (n * (4 * h) + i) x y
  pub kept : (n j i : ℕ) → j < 4 → i < h → (a ≤ n → n < b → c ≤ i → i < d → ⊥)
      → y (n * (4 * h) + (j * h + i)) ≡ x (n * (4 * h) + (j * h + i))

-- two lists of values have the same four
record SameFour (h k : ℕ) (x y : ℕ → ℕ) : Type 0 where
  first : x k ≡ y k
  second : x (k + h) ≡ y (k + h)
  third : x (k + 2 * h) ≡ y (k + 2 * h)
  fourth : x (k + 3 * h) ≡ y (k + 3 * h)

itself_four : (h k : ℕ) (x : ℕ → ℕ) → SameFour h k x x
itself_four h k x = record { first = refl; second = refl; third = refl; fourth = refl }

turned_four : {h k : ℕ} {x y : ℕ → ℕ} → SameFour h k x y → SameFour h k y x
turned_four is = record { first = sym is.first; second = sym is.second; third = sym is.third; fourth = sym is.fourth }

-- the same four by other names of its values
four_by_same_values : {m p q s h k : ℕ} {x y x' y' : ℕ → ℕ} → SameFour h k x x' → SameFour h k y y'
    → IsFour m p q s h k x y → IsFour m p q s h k x' y'
four_by_same_values {m} {p} {q} {s} {h} {k} {x} {y} {x'} {y'} from to four = grind arith

-- .. and by powers that are congruent
four_by : {m p q s h k p' q' s' : ℕ} {x y : ℕ → ℕ} → Congruent m p p' → Congruent m q q' → Congruent m s s'
    → IsFour m p q s h k x y → IsFour m p' q' s' h k x y
four_by is_p is_q is_s four = record {
  sums = pair_by is_s four.sums;
  differences = pair_by is_s (pair_by_equal_values (mod_mul (mod_refl _) is_p).same (mod_mul (mod_refl _) is_q).same
      refl refl
      four.differences);
}

-- the same four values by powers that are congruent
pub four_done_by_congruent_powers : {m p q s h k p' q' s' : ℕ} {x y : ℕ → ℕ} → Congruent m p p' → Congruent m q q'
    → Congruent m s s'
    → FourDone m p q s h k x y → FourDone m p' q' s' h k x y
four_done_by_congruent_powers is_p is_q is_s done = record { four = four_by is_p is_q is_s done.four; kept = done.kept }

-- a place names its block and its column
same_block_and_column : (h c j l b t i : ℕ) → j < 4 → t < 4 → l < h → i < h
    → c * (4 * h) + (j * h + l) ≡ b * (4 * h) + (t * h + i) → (c ≡ b) × (l ≡ i)
same_block_and_column h c j l b t i lj lt ll li e =
    let outer = same_from_place _ _ _ _ _ (omega (arith, mul-le (j + 1) h 4 h (omega arith) (omega arith)))
    (omega (arith, mul-le (t + 1) h 4 h (omega arith) (omega arith))) e in
    (outer.0, (same_from_place j l t i h ll li outer.1).1)

-- one four alone
pub one_done : {m w v : ℕ} (h b i : ℕ) (x y : ℕ → ℕ) → i < h
    → FourDone m (w ^ i) (w ^ (h + i)) (v ^ i) h (b * (4 * h) + i) x y → FoursDone m w v h b (b + 1) i (i + 1) x y
one_done {m} {w} {v} h b i x y l done = record {
  fours = λ n j u v c d.
      let eb : b ≡ n = omega arith in
      let ei : i ≡ j = omega arith in
      rw (eb, ei) at done.four;
  kept = λ n j o lj lo outside.
      let other = λ (t : ℕ) (lt : t < 4) (e : n * (4 * h) + (j * h + o) ≡ b * (4 * h) + (t * h + i)).
      let s = same_block_and_column h n j o b t i lj lt lo l e in
      outside (omega (arith, s.0)) (omega (arith, s.0)) (omega (arith, s.1)) (omega (arith, s.1)) in
      done.kept (n * (4 * h) + (j * h + o)) (λ e. other 0 (omega arith) (e ∙ omega arith))
      (λ e. other 1 (omega arith) (e ∙ omega arith)) (λ e. other 2 (omega arith) (e ∙ omega arith))
      (λ e. other 3 (omega arith) (e ∙ omega arith));
}

-- a four that isn't among those that are done
other_four_is_unchanged : {m w v h a b c d : ℕ} {x y : ℕ → ℕ} → FoursDone m w v h a b c d x y
    → (n i : ℕ) → i < h → (a ≤ n → n < b → c ≤ i → i < d → ⊥) → SameFour h (n * (4 * h) + i) y x
other_four_is_unchanged {h = h} {x = x} {y = y} done n i l outside =
    let at = λ (k j : ℕ) (lj : j < 4) (e : k ≡ n * (4 * h) + (j * h + i)).
    ap y e ∙ done.kept n j i lj l outside ∙ ap x (sym e) in
    record {
      first = at _ 0 (omega arith) (omega arith);
      second = at _ 1 (omega arith) (omega arith);
      third = at _ 2 (omega arith) (omega arith);
      fourth = at _ 3 (omega arith) (omega arith);
    }

-- more columns of the same blocks
pub columns_joined : {m w v h a b c d e : ℕ} (x y z : ℕ → ℕ) → c ≤ d → d ≤ e → e ≤ h
    → FoursDone m w v h a b c d x y → FoursDone m w v h a b d e y z → FoursDone m w v h a b c e x z
columns_joined {h = h} {d = d} x y z lc ld le one two = record {
  fours = λ n i u v k l. elim (cases_lt i d) [
    | inl f ↦ four_by_same_values (itself_four h _ x)
        (turned_four (other_four_is_unchanged two n i (omega arith) (λ o g j k. absurd (omega arith))))
        (one.fours n i u v k f)
    | inr f ↦ four_by_same_values (other_four_is_unchanged one n i (omega arith) (λ o g j k. absurd (omega arith)))
        (itself_four h _ z)
        (two.fours n i u v f l)
  ];
  kept = λ n j i lj l outside.
      two.kept n j i lj l (λ u v k f. outside u v (omega arith) f)
      ∙ one.kept n j i lj l (λ u v k f. outside u v k (omega arith));
}

-- more blocks of the same columns
pub blocks_joined : {m w v h a b c d e : ℕ} (x y z : ℕ → ℕ) → a ≤ b → b ≤ e → d ≤ h
    → FoursDone m w v h a b c d x y → FoursDone m w v h b e c d y z → FoursDone m w v h a e c d x z
blocks_joined {h = h} {b = b} x y z la lb ld one two = record {
  fours = λ n i u v k l. elim (cases_lt n b) [
    | inl f ↦ four_by_same_values (itself_four h _ x)
        (turned_four (other_four_is_unchanged two n i (omega arith) (λ o g j k. absurd (omega arith))))
        (one.fours n i u f k l)
    | inr f ↦ four_by_same_values (other_four_is_unchanged one n i (omega arith) (λ o g j k. absurd (omega arith)))
        (itself_four h _ z)
        (two.fours n i f v k l)
  ];
  kept = λ n j i lj l outside.
      two.kept n j i lj l (λ u v k f. outside (omega arith) v k f)
      ∙ one.kept n j i lj l (λ u v k f. outside u (omega arith) k f);
}

-- the places of a block are places of the list
pub block_places_within_length : (block blocks h n : ℕ) → block < blocks → blocks * (4 * h) ≡ n
    → block * (4 * h) + 4 * h ≤ n
block_places_within_length block blocks h n l whole = grind arith
