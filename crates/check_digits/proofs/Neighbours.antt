-- IBANs with two neighbouring characters exchanged.
use Rattle.std.proofs.Common.{◌≡◌, ◌≢◌, ℕ, zero, suc, ◌+◌, ◌-◌, ◌*◌, ◌%◌, ◌^◌, ◌<◌, ◌≤◌, ◌⊎◌, inl, inr}
use Rattle.std.proofs.Common.{nat_eq, List, [], ◌∷◌, ◌++◌, length, get_or, set, take, drop, length-append}
use Rattle.std.proofs.Common.{sym, ap, ◌∙◌, refl, arith, subst, length-set, get_or-set_same, get_or-set_other}
use Rattle.std.specs.List.{flat_map}
use Rattle.std.proofs.Math.Seq.{take-set-lt}
use Rattle.std.proofs.lemmas.Bool.{cases_eq, cases_lt, eqb-true}
use Rattle.std.proofs.lemmas.Grind.{flat_map-append}
use Rattle.std.proofs.lemmas.List.{append_assoc, append-nil, set-get_or, drop-set-add, drop-set-lt, take-set-le}
use Rattle.std.proofs.lemmas.List.{length-take-le}
use Rattle.std.proofs.lemmas.List.Elements.{All-set}
use Rattle.num_modular.specs.Inverses.{HasInverse}
use Rattle.num_modular.specs.NumberLaws.{mod_of_eq, mod_trans}
use Rattle.check_digits.specs.Codes.{exchanged}
use Rattle.check_digits.specs.Ibans.{IsDigit, IsLetter, IsIban, AreElevenfold, FindsAllButElevenfold, digits_of}
use Rattle.check_digits.specs.Ibans.{check_number}
use Rattle.check_digits.proofs.Characters.{number, number_middle, middle_residue, written_append_is_shifted_sum}
use Rattle.check_digits.proofs.Characters.{digit_is, letter_is, rotated, number_of, both_leave}
use Rattle.check_digits.proofs.CheckSums.{one_completion}
use Rattle.check_digits.proofs.Decisions.{each_passes}

-- the number that two characters write
abbrev pair : ℕ → ℕ → ℕ
pair c d = number (c ∷ d ∷ [])

-- two characters that leave the same in either order
same_pair : (c d : ℕ) → IsDigit c ⊎ IsLetter c → IsDigit d ⊎ IsLetter d → c ≢ d
    → pair c d % 97 ≡ pair d c % 97 → AreElevenfold c d ⊎ AreElevenfold d c
same_pair c d h2 h3 apart same = grind (arith, digit_is, letter_is)

-- where two neighbouring characters of a text stand when its first four are at its end
record Neighbours (text : List ℕ) (i : ℕ) : Type 0 where
  before : List ℕ
  behind : List ℕ
  moves : (c d : ℕ) → rotated (set (set text i c) (suc i) d) ≡ before ++ c ∷ d ∷ behind

set_two : (xs : List ℕ) (p c d : ℕ) → suc p < length xs
    → set (set xs p c) (suc p) d ≡ take p xs ++ c ∷ d ∷ drop (suc (suc p)) xs
set_two [] p c d l = absurd (omega arith)
set_two (x ∷ []) zero c d l = absurd (omega arith)
set_two (x ∷ y ∷ xs) zero c d l = refl
set_two (x ∷ xs) (suc p) c d l = ap (λ ys. x ∷ ys) (set_two xs p c d (omega (arith, l)))

neighbours_of : (text : List ℕ) (i : ℕ) → 4 ≤ length text → suc i < length text → i ≢ 3 → Neighbours text i
neighbours_of text i long inside other = elim (cases_lt i 4) [
  | inl b ↦
      let front = length-take-le 4 text long in
      record {
        before = drop 4 text ++ take i (take 4 text);
        behind = drop (suc (suc i)) (take 4 text);
        moves = λ c d. search (arith, drop-set-lt, take-set-lt, set_two, append_assoc);
      }
  | inr b ↦
      let k = i - 4 in
      record {
        before = take k (drop 4 text);
        behind = drop (suc (suc k)) (drop 4 text) ++ take 4 text;
        moves = search (arith, drop-set-add, take-set-le, set_two, append_assoc);
      }
]

-- two characters have as many digits in either order
pair_length : (c d : ℕ) → length (flat_map digits_of (c ∷ d ∷ [])) ≡ length (flat_map digits_of (d ∷ c ∷ []))
pair_length c d = grind (arith, length-append)

kept_neighbours : (before behind : List ℕ) (c d : ℕ) → pair c d ≡ pair d c
    → number (before ++ c ∷ d ∷ behind) ≡ number (before ++ d ∷ c ∷ behind)
kept_neighbours before behind c d same =
    grind (arith, pair_length, number_middle before (c ∷ d ∷ []) behind, number_middle before (d ∷ c ∷ []) behind)

-- powers of ten less 1 have inverses modulo 97, from 10 to 10^68
less_one_unit : (k : ℕ) → k < 68 → HasInverse 97 (10 ^ suc k + 96)
less_one_unit k l =
    let x = λ (k : ℕ). (10 ^ suc k + 96) ^ 95 % 97 in (
      x k,
      record {
        below = omega arith;
        one = eqb-true _ _ (each_passes 68 (λ k. nat_eq (((10 ^ suc k + 96) * x k) % 97) 1) refl k l);
      },
    )

-- a character has two digits at most
digits_at_most : (xs : List ℕ) → length (flat_map digits_of xs) ≤ 2 * length xs
digits_at_most [] = omega arith
digits_at_most (c ∷ cs) = grind (arith, length-append, digits_at_most cs)

-- the last check digit is read last, and the character behind it first
ends_number : (mid : List ℕ) (c d : ℕ) → IsDigit c → IsDigit d → number (d ∷ mid ++ c ∷ [])
    ≡ (d - 48) * 10 ^ suc (length (flat_map digits_of mid)) + (number mid * 10 + (c - 48))
ends_number mid c d h k =
    search (arith, flat_map-append, append-nil, digit_is, length-append, written_append_is_shifted_sum)

ends_differ : (m c d p : ℕ) → HasInverse 97 (p + 96) → c < 10 → d < 10
    → (d * p + (m + c)) % 97 ≡ (c * p + (m + d)) % 97 → d ≡ c
ends_differ m c d p unit c_small d_small same =
    one_completion 97 m (p + 96) c d unit (omega (arith, c_small)) (omega (arith, d_small)) (omega (arith, same))

ends_exchanged : (mid : List ℕ) (c d : ℕ) → IsDigit c → IsDigit d → length mid ≤ 32
    → number (d ∷ mid ++ c ∷ []) % 97 ≡ number (c ∷ mid ++ d ∷ []) % 97 → c ≡ d
ends_exchanged mid c d h k few same =
    search (arith, digits_at_most, ends_differ, less_one_unit, mod_trans, mod_of_eq, ends_number)

at_three : (text : List ℕ) → IsIban text → get_or text 3 0 ≢ get_or text 4 0 → IsIban (exchanged text 3) → ⊥
at_three [] iban apart changed = absurd (omega arith)
at_three (s ∷ []) iban apart changed = absurd (omega arith)
at_three (s ∷ t ∷ []) iban apart changed = absurd (omega arith)
at_three (s ∷ t ∷ u ∷ []) iban apart changed = absurd (omega arith)
at_three (s ∷ t ∷ u ∷ c ∷ []) iban apart changed = absurd (omega arith)
at_three (s ∷ t ∷ u ∷ c ∷ d ∷ rest) iban apart changed =
    let first : List ℕ = s ∷ t ∷ u ∷ [] in
    let p = length-append rest first in
    apart (ends_exchanged (rest ++ first) c d iban.form.check.1 changed.form.check.1 (omega (arith, p))
    (search (arith, both_leave, append_assoc)))

-- among the first four characters each exchange is found
first_found : (text : List ℕ) (i : ℕ) → IsIban text → IsIban (exchanged text i) → suc i < length text → i < 3
    → AreElevenfold (get_or text i 0) (get_or text (suc i) 0) ⊎ AreElevenfold (get_or text (suc i) 0) (get_or text i 0)
    → ⊥
first_found text i iban changed inside l h = grind (arith, length-set, get_or-set_same, get_or-set_other)

-- the text with two neighbours that differ exchanged ..
pub neighbours_told : FindsAllButElevenfold
neighbours_told text i iban inside apart =
    let x = get_or text i 0 in
    let y = get_or text (suc i) 0 in
    let least = iban.form.least in
    let long : 4 ≤ length text = omega (arith, least) in
    let kind_x = iban.form.characters i 0 (omega (arith, inside)) in
    let kind_y = iban.form.characters (suc i) 0 inside in
    let itself_is : text ≡ set (set text i x) (suc i) y =
    sym (set-get_or text (suc i) 0) ∙ ap (λ t. set t (suc i) y) (sym (set-get_or text i 0)) in (
      λ changed. elim (cases_eq i 3) [
        | inl e ↦ absurd (at_three text iban (subst (λ j. get_or text j 0 ≢ get_or text (suc j) 0) e apart)
            (subst (λ j. IsIban (exchanged text j)) e changed))
        | inr other ↦
            let at = neighbours_of text i long inside other in
            let same = middle_residue at.before (x ∷ y ∷ []) (y ∷ x ∷ []) at.behind (pair_length x y)
            (search (arith, both_leave)) in
            search (arith, same_pair, cases_lt, first_found)
      ],
      λ (high, told).
          let at = neighbours_of text i long inside (omega (arith, high)) in
          let kept : (j : ℕ) → j < 4 → get_or (exchanged text i) j 0 ≡ get_or text j 0 =
          search (arith, get_or-set_other) in
          let count : length (exchanged text i) ≡ length text = search (arith, length-set) in
          let check : check_number (exchanged text i) ≡ check_number text = search arith in
          record {
            form = record {
              least = omega (arith, count, least);
              most = omega (arith, count, iban.form.most);
              country = search arith;
              check = search arith;
              characters = All-set (λ c. IsDigit c ⊎ IsLetter c) (set text i y) (suc i) x kind_x
                  (All-set (λ c. IsDigit c ⊎ IsLetter c) text i y kind_y iban.form.characters);
            };
            generated = search arith;
            leaves = ap (λ k. k % 97) (sym (number_of (exchanged text i) _ (at.moves y x))
                ∙ sym (kept_neighbours at.before at.behind x y (grind arith))
                ∙ number_of text _ (ap rotated itself_is ∙ at.moves x y)) ∙ iban.leaves;
          },
    )
