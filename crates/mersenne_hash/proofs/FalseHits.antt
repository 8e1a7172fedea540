-- Bases at which a part of a text has the hash of a pattern that it isn't.
use Rattle.std.proofs.Common.{◌≡◌, ℕ, ◌+◌, ◌-◌, ◌<◌, ◌≤◌, List, length, slice_range, All}
use Rattle.std.proofs.Common.{arith, ap, sym, subst, ◌∙◌, inl, inr, length-drop}
use Rattle.std.proofs.lemmas.Bool.{cases_lt}
use Rattle.std.proofs.lemmas.List.{length-take-le, get_or-take, get_or-drop}
use Rattle.std.proofs.lemmas.List.Elements.{All-from_get_or}
use Rattle.num_modular.specs.Mersenne.{mersenne}
use Rattle.mersenne_hash.specs.Collisions.{AreApart, FewCollisions, IsFalseHit, FewFalseHits}
use Rattle.mersenne_hash.proofs.Counting.{count, place, place_right, size_bounded_by_multiplicities}

-- the part of a text from v on
abbrev part : List ℕ → ℕ → ℕ → List ℕ
part text n v = slice_range text v (v + n)

pub part_length : (text : List ℕ) (n v : ℕ) → v + n ≤ length text → length (part text n v) ≡ n
part_length text n v within = search (arith, length-drop, length-take-le)

part_symbols_below_bound : (p n v : ℕ) (text : List ℕ) → v + n ≤ length text → All (λ c. c < p) text
    → All (λ c. c < p) (part text n v)
part_symbols_below_bound p n v text within below =
    search (arith, All-from_get_or, part_length, get_or-take, get_or-drop)

-- at one position there are fewer bases than the pattern has symbols
few_at : FewCollisions → (text pattern : List ℕ) (n v : ℕ) (x at : ℕ → ℕ) → AreApart n x
    → All (λ c. c < mersenne 61 1) text → All (λ c. c < mersenne 61 1) pattern
    → ((i : ℕ) → i < n → IsFalseHit text pattern (x i) (at i)) → length pattern - 1 < count at v n → ⊥
few_at few text pattern n v x at bases text_below pattern_below hits many =
    let k : ℕ = length pattern in
    let y : ℕ → ℕ = place at v n in
    let is = λ (i : ℕ) (l : i < k). place_right at v n i (omega (arith, l, many)) in
    let one = place_right at v n 0 (omega (arith, many)) in
    let hit = subst (IsFalseHit text pattern (x (y 0))) one.value (hits (y 0) one.within) in
    let lengths : length (part text k v) ≡ k = part_length text k v hit.within in
    hit.other
    (few (part text k v) pattern (λ i. x (y i)) lengths
    record {
      apart = λ i j h l differ.
          let first = is i (omega (arith, h, lengths)) in
          let second = is j (omega (arith, l, lengths)) in
          bases.apart (y i) (y j) first.within second.within
          (λ e. differ (sym first.rank ∙ ap (λ i. count at v i) e ∙ second.rank));
    }
    (part_symbols_below_bound (mersenne 61 1) k v text hit.within text_below) pattern_below
    (λ i l.
    let here = is i (omega (arith, l, lengths)) in
    (subst (IsFalseHit text pattern (x (y i))) here.value (hits (y i) here.within)).same_hash))

pub few_false_hits : FewCollisions → FewFalseHits
few_false_hits few text pattern n x at bases text_below pattern_below hits =
    size_bounded_by_multiplicities at (length text - length pattern + 1) n (length pattern - 1)
    (λ i l. let within = (hits i l).within in omega (arith, within))
    (λ v l. elim (cases_lt (length pattern - 1) (count at v n)) [
      | inl many ↦ absurd (few_at few text pattern n v x at bases text_below pattern_below hits many)
      | inr most ↦ most
    ])
