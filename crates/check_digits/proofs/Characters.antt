-- IBANs with one character changed.
use Rattle.std.proofs.Common.{◌≡◌, ℕ, suc, ◌+◌, ◌-◌, ◌*◌, ◌/◌, ◌%◌, ◌^◌, ◌<◌, ◌≤◌, inl, inr, Bool, false, nat_le}
use Rattle.std.proofs.Common.{if◌then◌else◌, List, [], ◌∷◌, ◌++◌, length, get_or, set, take, drop, length-append}
use Rattle.std.proofs.Common.{sym, ap, ◌∙◌, refl, arith, pow-add}
use Rattle.std.specs.List.{flat_map}
use Rattle.std.proofs.Math.Seq.{take-set-lt}
use Rattle.std.proofs.lemmas.Bool.{cases_lt, leb-true, le-leb, false≢true}
use Rattle.std.proofs.lemmas.Grind.{flat_map-append}
use Rattle.std.proofs.lemmas.List.{append_assoc, set_split, set-get_or, length-take-le, drop-set-add, drop-set-lt}
use Rattle.std.proofs.lemmas.List.{take-set-le}
use Rattle.std.proofs.lemmas.Nat.{mul-pow, mul-mod_second, pow-mod}
use Rattle.num_modular.specs.Inverses.{HasInverse}
use Rattle.num_modular.specs.NumberLaws.{sum_below-first, sum_below-same, one-pow}
use Rattle.num_modular.specs.Sums.{sum_below, polynomial_highest_first}
use Rattle.check_digits.specs.Ibans.{IsDigit, IsLetter, IsIban, AreOfOneKind, FindsEachCharacter, digits_of}
use Rattle.check_digits.specs.Ibans.{iban_digits, iban_number}
use Rattle.check_digits.proofs.CheckSums.{unit_cofactor_residue_is_zero}

-- the number that digits write, by its first digit
abbrev pub written : List ℕ → ℕ
written [] = 0
written (d ∷ ds) = d * 10 ^ length ds + written ds

pub written_is : (ds : List ℕ) → written ds ≡ polynomial_highest_first (length ds) (λ i. get_or ds i 0) 10
unfolding sum_below
written_is [] = refl
written_is (d ∷ ds) =
    let n = length ds in
    let f : ℕ → ℕ = λ i. get_or (d ∷ ds) i 0 * 10 ^ (suc n - 1 - i) in
    let rest : sum_below n (λ i. get_or ds i 0 * 10 ^ (n - 1 - i)) ≡ sum_below n (λ i. f (suc i)) =
    search (arith, sum_below-same) in
    search (arith, sum_below-first, written_is ds)

pub written_append_is_shifted_sum : (ds es : List ℕ) → written (ds ++ es) ≡ written ds * 10 ^ length es + written es
written_append_is_shifted_sum [] es = omega arith
written_append_is_shifted_sum (d ∷ ds) es = search (arith, length-append, pow-add, written_append_is_shifted_sum ds es)

-- the digits of a digit and of a letter
false_at : (c : ℕ) → nat_le c 57 ≡ false → c ≤ 57 → ⊥
false_at c e h = false≢true (sym e ∙ le-leb c 57 h)

pub digit_is : (c : ℕ) (b : Bool) → nat_le c 57 ≡ b → IsDigit c
    → (if b then (c - 48) ∷ [] else ((c - 55) / 10) ∷ ((c - 55) % 10) ∷ []) ≡ (c - 48) ∷ []
digit_is c b e h = grind (arith, false_at)

pub letter_is : (c : ℕ) (b : Bool) → nat_le c 57 ≡ b → IsLetter c
    → (if b then (c - 48) ∷ [] else ((c - 55) / 10) ∷ ((c - 55) % 10) ∷ []) ≡ ((c - 55) / 10) ∷ ((c - 55) % 10) ∷ []
letter_is c b e h = grind (arith, leb-true)

-- the number that the digits of characters write
abbrev pub number : List ℕ → ℕ
number text = written (flat_map digits_of text)

-- two characters of one kind have as many digits, and their numbers distinguish them
residues_distinguish_characters : (c d : ℕ) → AreOfOneKind c d
    → (length (flat_map digits_of (c ∷ [])) ≡ length (flat_map digits_of (d ∷ [])))
    × (number (c ∷ []) % 97 ≡ number (d ∷ []) % 97 → c ≡ d)
residues_distinguish_characters c d kind = search (arith, digit_is, letter_is)

-- powers of ten have inverses modulo 97
pub power_of_ten_has_inverse : (k : ℕ) → HasInverse 97 (10 ^ k)
power_of_ten_has_inverse k = (
  68 ^ k % 97,
  record {
    below = omega arith;
    one = grind (arith, mul-mod_second, mul-pow 10 68 k, pow-mod 680 k 97, one-pow);
  },
)

-- the number of characters with some in the middle named
pub number_middle : (before mid behind : List ℕ) → number (before ++ (mid ++ behind))
    ≡ number before * 10 ^ (length (flat_map digits_of mid) + length (flat_map digits_of behind))
    + (number mid * 10 ^ length (flat_map digits_of behind) + number behind)
number_middle before mid behind = search (arith, flat_map-append, written_append_is_shifted_sum, length-append)

-- with others there that have as many digits, and that leave the same modulo 97
pub middle_residue : (before mid other behind : List ℕ)
    → length (flat_map digits_of mid) ≡ length (flat_map digits_of other)
    → number (before ++ (mid ++ behind)) % 97 ≡ number (before ++ (other ++ behind)) % 97
    → number mid % 97 ≡ number other % 97
middle_residue before mid other behind count same =
    let k = length (flat_map digits_of behind) in
    let unit = power_of_ten_has_inverse k in
    let alike = ap (λ n. number before * 10 ^ (n + k)) count in
    let none = unit_cofactor_residue_is_zero 97 (10 ^ k) unit.0 (number mid + 96 * number other) unit.1.one
    (omega (arith, same, number_middle before mid behind, number_middle before other behind, alike)) in
    omega (arith, none)

-- a text whose first four characters are moved to its end, with one of them named
abbrev pub rotated : List ℕ → List ℕ
rotated text = drop 4 text ++ take 4 text

record Place (text : List ℕ) (i : ℕ) : Type 0 where
  before : List ℕ
  behind : List ℕ
  moves : (c : ℕ) → rotated (set text i c) ≡ before ++ c ∷ behind

place_of : (text : List ℕ) (i : ℕ) → 4 ≤ length text → i < length text → Place text i
place_of text i long inside = elim (cases_lt i 4) [
  | inl b ↦
      let front = length-take-le 4 text long in
      record {
        before = drop 4 text ++ take i (take 4 text);
        behind = drop (suc i) (take 4 text);
        moves = search (arith, drop-set-lt, take-set-lt, set_split, append_assoc);
      }
  | inr b ↦ record {
    before = take (i - 4) (drop 4 text);
    behind = drop (suc (i - 4)) (drop 4 text) ++ take 4 text;
    moves = search (arith, drop-set-add, take-set-le, set_split, append_assoc);
  }
]

pub number_of : (text xs : List ℕ) → rotated text ≡ xs → number xs ≡ iban_number text
number_of text xs e = ap number (sym e) ∙ written_is (iban_digits text)

-- two texts that leave the same
pub both_leave : (s t xs ys : List ℕ) → IsIban s → IsIban t → rotated s ≡ xs → rotated t ≡ ys
    → number xs % 97 ≡ number ys % 97
both_leave s t xs ys is_s is_t e f =
    ap (λ k. k % 97) (number_of s xs e) ∙ is_s.leaves ∙ sym (ap (λ k. k % 97) (number_of t ys f) ∙ is_t.leaves)

pub each_character_change_found : FindsEachCharacter
each_character_change_found text i c iban inside kind apart changed =
    let x = get_or text i 0 in
    let at = place_of text i (omega arith) inside in
    let both = residues_distinguish_characters x c kind in
    let old = ap rotated (sym (set-get_or text i 0)) ∙ at.moves x in
    apart (sym (both.1 (middle_residue at.before (x ∷ []) (c ∷ []) at.behind both.0
    (both_leave text (set text i c) _ _ iban changed old (at.moves c)))))
