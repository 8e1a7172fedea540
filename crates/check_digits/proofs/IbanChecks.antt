-- The check digits of an IBAN.
use Rattle.std.proofs.Common.{◌≡◌, ℕ, ◌+◌, ◌-◌, ◌*◌, ◌/◌, ◌%◌, ◌≤◌, ◌⊎◌, inl}
use Rattle.std.proofs.Common.{List, [], ◌∷◌, ◌++◌, set, append_assoc, sym, ◌∙◌, arith}
use Rattle.std.specs.List.{flat_map}
use Rattle.std.proofs.lemmas.Grind.{flat_map-append}
use Rattle.std.proofs.lemmas.List.Elements.{All-set}
use Rattle.check_digits.specs.Ibans.{IsDigit, IsLetter, IsIbanForm, AreCheckDigits, digits_of, iban_digits, iban_number}
use Rattle.check_digits.specs.Ibans.{check_number}
use Rattle.check_digits.proofs.Characters.{written, written_is, written_append_is_shifted_sum, digit_is}

-- the number is a hundred times that of the other characters, and that of the check digits
split_number : (s t a b : ℕ) (rest : List ℕ) → IsDigit a → IsDigit b → iban_number (s ∷ t ∷ a ∷ b ∷ rest)
    ≡ 100 * written (flat_map digits_of (rest ++ s ∷ t ∷ [])) + (10 * (a - 48) + (b - 48))
split_number s t a b rest h k =
    let last : flat_map digits_of (a ∷ b ∷ []) ≡ (a - 48) ∷ (b - 48) ∷ [] = search (arith, digit_is) in
    let whole : rest ++ s ∷ t ∷ a ∷ b ∷ [] ≡ rest ++ s ∷ t ∷ [] ++ (a ∷ b ∷ []) = search (arith, append_assoc) in
    sym (written_is (iban_digits (s ∷ t ∷ a ∷ b ∷ rest)))
    ∙ grind (arith, flat_map-append, written_append_is_shifted_sum)

-- the check digits of a number, v being what it leaves with those of the number c
abbrev pub check_of : ℕ → ℕ → ℕ
check_of v c = 98 - (v + 194 - c) % 97

one_check : (n k l : ℕ) → 2 ≤ k → k ≤ 98 → 2 ≤ l → l ≤ 98 → (100 * n + k) % 97 ≡ 1 → (100 * n + l) % 97 ≡ 1 → l ≡ k
one_check n k l k_least k_most l_least l_most e f = omega (arith, k_least, k_most, l_least, l_most, e, f)

pub check_digits_of : (text : List ℕ) (v : ℕ) → IsIbanForm text → v ≡ iban_number text % 97
    → AreCheckDigits text ((48 + check_of v (check_number text) / 10) ∷ (48 + check_of v (check_number text) % 10) ∷ [])
check_digits_of [] v form is = absurd (omega arith)
check_digits_of (s ∷ []) v form is = absurd (omega arith)
check_digits_of (s ∷ t ∷ []) v form is = absurd (omega arith)
check_digits_of (s ∷ t ∷ u ∷ []) v form is = absurd (omega arith)
check_digits_of (s ∷ t ∷ u ∷ c ∷ rest) v form is =
    let text : List ℕ = s ∷ t ∷ u ∷ c ∷ rest in
    let n = written (flat_map digits_of (rest ++ s ∷ t ∷ [])) in
    let old : ℕ = 10 * (u - 48) + (c - 48) in
    let k : ℕ = check_of v old in
    let leaves : v ≡ (100 * n + old) % 97 = grind (arith, split_number) in
    let right : (100 * n + k) % 97 ≡ 1 = omega (arith, leaves) in
    let least : 2 ≤ k = omega arith in
    let most : k ≤ 98 = omega arith in
    let a : ℕ = 48 + k / 10 in
    let b : ℕ = 48 + k % 10 in
    let a_is : IsDigit a = (omega arith, omega (arith, most)) in
    let b_is : IsDigit b = (omega arith, omega arith) in
    let number : 10 * (a - 48) + (b - 48) ≡ k = omega arith in
    record {
      form = form;
      accepted = record {
        form = record {
          least = form.least;
          most = form.most;
          country = form.country;
          check = (a_is, b_is);
          characters = All-set (λ c. IsDigit c ⊎ IsLetter c) (set text 2 a) 3 b (inl b_is)
              (All-set (λ c. IsDigit c ⊎ IsLetter c) text 2 a (inl a_is) form.characters);
        };
        generated = (omega (arith, number, least), omega (arith, number, most));
        leaves = grind (arith, split_number);
      };
      only = search (arith, split_number, one_check);
    }
