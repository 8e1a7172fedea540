-- Digits of texts, and the number that digits write modulo 97.
use Rattle.std.proofs.Common.{◌≡◌, ◌↔◌, ℕ, zero, suc, ◌+◌, ◌-◌, ◌*◌, ◌%◌, ◌^◌, ◌<◌, Bool, true, ◌&&◌}
use Rattle.std.proofs.Common.{nat_eq, List, [], ◌∷◌, length, get_or, drop, sym, ap, ◌∙◌, refl, arith}
use Rattle.std.proofs.lemmas.Bool.{and_parts, eqb-true, leb-true}
use Rattle.std.proofs.lemmas.List.{get_or-drop}
use Rattle.std.proofs.lemmas.Nat.{mul-mod_first}
use Rattle.num_modular.specs.NumberLaws.{sum_below-congruent}
use Rattle.num_modular.specs.Sums.{polynomial_highest_first}
use Rattle.std.proofs.Common.{append-nil, length-drop, ◌≤◌, ◌⊎◌, ◌++◌, ◌/◌, take, nat_le, if◌then◌else◌}
use Rattle.std.specs.List.{All, flat_map}
use Rattle.std.proofs.lemmas.List.{ext_get_or, get_or-take, length-take-le, take_all, take_more}
use Rattle.std.proofs.lemmas.Grind.{flat_map-append}
use Rattle.std.proofs.lemmas.List.Elements.{All-nil, All-append, All-drop, All-take}
use Rattle.check_digits.specs.Codes.{weighted_sum, CheckCode, IsCodeword}
use Rattle.check_digits.specs.Ibans.{IsDigit, IsLetter, digits_of, iban_digits, iban_number}
use Rattle.check_digits.specs.Standards.{from_right, mod_97_10}
use Rattle.check_digits.proofs.Decisions.{each_below, each_passes}
use Rattle.check_digits.proofs.Finds.{length-from_right, get_or-from_right}

-- with the powers of ten as weights, the sum of digits is congruent to the number that they form
pub number_of_sum : (m : ℕ) (weights digits : List ℕ)
    → ((i : ℕ) → i < length digits → get_or weights i 0 ≡ 10 ^ (length digits - 1 - i) % m)
    → weighted_sum weights digits % m ≡ polynomial_highest_first (length digits) (λ i. get_or digits i 0) 10 % m
number_of_sum m weights digits powers = search (arith, sum_below-congruent, mul-mod_first)

-- whether the numbers of a list are the powers of ten modulo m, the last being that of 0
abbrev pub are_powers : ℕ → List ℕ → Bool
are_powers m [] = true
are_powers m (x ∷ xs) = nat_eq x (10 ^ length xs % m) && are_powers m xs

powers_at : (m : ℕ) (xs : List ℕ) → are_powers m xs ≡ true → (i : ℕ) → i < length xs
    → get_or xs i 0 ≡ 10 ^ (length xs - 1 - i) % m
powers_at m [] h i l = absurd (omega (arith, l))
powers_at m (x ∷ xs) h zero l = search (arith, eqb-true, and_parts)
powers_at m (x ∷ xs) h (suc i) l =
    let parts = and_parts (nat_eq x (10 ^ length xs % m)) (are_powers m xs) h in
    search (arith, powers_at m xs parts.1 i (omega (arith, l)))

-- so are the last of them
pub powers_behind : (m place : ℕ) (xs : List ℕ) (count i : ℕ) → are_powers m xs ≡ true
    → place + count ≡ length xs → i < count
    → get_or (drop place xs) i 0 ≡ 10 ^ (count - 1 - i) % m
powers_behind m place xs count i h whole within =
    let same : length xs - 1 - (place + i) ≡ count - 1 - i = omega (arith, whole) in
    get_or-drop place xs i 0 ∙ powers_at m xs h (place + i) (omega (arith, whole)) ∙ ap (λ e. 10 ^ e % m) same

-- the digits of characters are digits
digits_by : (b : Bool) (c : ℕ) → nat_le c 57 ≡ b → c ≤ 90
    → All (λ d. d ≤ 9) (if b then (c - 48) ∷ [] else ((c - 55) / 10) ∷ ((c - 55) % 10) ∷ [])
digits_by b c e h = grind (arith, leb-true)

digits_small : (c : ℕ) → IsDigit c ⊎ IsLetter c → All (λ d. d ≤ 9) (digits_of c)
digits_small c h = search (arith, digits_by)

pub all_digits : (text : List ℕ) → All (λ c. IsDigit c ⊎ IsLetter c) text → All (λ d. d ≤ 9) (flat_map digits_of text)
all_digits [] h = All-nil (λ d. d ≤ 9)
all_digits (c ∷ cs) h =
    All-append (λ d. d ≤ 9) (digits_of c) (flat_map digits_of cs) (digits_small c (h 0 0 (omega arith)))
    (all_digits cs (λ i d l. h (suc i) d (omega (arith, l))))

-- the weighted sum of the digits of a text leaves what the number leaves that they form
pub number_leaves : (code : CheckCode) (text word : List ℕ) (n : ℕ) → code ≡ mod_97_10 n → word ≡ iban_digits text
    → length word ≡ n → weighted_sum code.weights word % 97 ≡ iban_number text % 97
number_leaves code text word n is digits count = search (arith, number_of_sum, get_or-from_right)

-- the digits of a text are a word of the code of its number of digits, exactly where they form a number that is
-- 1 modulo 97
pub is_word : (code : CheckCode) (text word : List ℕ) (n : ℕ) → code ≡ mod_97_10 n → word ≡ iban_digits text
    → length word ≡ n → All (λ c. IsDigit c ⊎ IsLetter c) text
    → IsCodeword code word ↔ (iban_number text % 97 ≡ 1)
is_word code text word n is digits count characters =
    let number = number_leaves (mod_97_10 n) text word n refl digits count in
    let kind = λ (c : ℕ). IsDigit c ⊎ IsLetter c in
    let small : All (λ d. d ≤ 9) word =
    rw digits (all_digits _ (All-append kind _ _ (All-drop kind 4 _ characters) (All-take kind 4 _ characters))) in
    search (arith, length-from_right, get_or-from_right)

-- a list by its places
from_right_of_entries : (n : ℕ) (xs : List ℕ) (f : ℕ → ℕ) → length xs ≡ n
    → ((i : ℕ) → i < n → get_or xs i 0 ≡ f (n - 1 - i)) → xs ≡ from_right n f
from_right_of_entries n xs f count at =
    ext_get_or 0 xs (from_right n f) (count ∙ sym (length-from_right n f))
    (λ i h. search (arith, get_or-from_right))

abbrev pub code_with : List ℕ → List ℕ → List ℕ → CheckCode
code_with ws ls gs = record { modulus = 97; residue = 1; weights = ws; least = ls; greatest = gs }

-- whether one number is at each of 68 places
abbrev pub is_constant : ℕ → List ℕ → Bool
is_constant v xs = each_below 68 (λ i. nat_eq (get_or xs i 0) v)

-- the first of them
take_of_constant : (v n : ℕ) (xs : List ℕ) → n ≤ 68 → length xs ≡ 68 → is_constant v xs ≡ true
    → take n xs ≡ from_right n (λ j. v)
take_of_constant v n xs most count h =
    from_right_of_entries n (take n xs) (λ j. v) (length-take-le n xs (omega (arith, count)))
    (λ i l. get_or-take n xs i 0 l
    ∙ eqb-true _ _ (each_passes 68 (λ i. nat_eq (get_or xs i 0) v) h i (omega (arith, l))))

-- the code of the powers of ten, and of the digits
pub is_code : (n : ℕ) (ws ls gs : List ℕ) → n ≤ 68 → length ws ≡ n
    → ((i : ℕ) → i < n → get_or ws i 0 ≡ 10 ^ (n - 1 - i) % 97)
    → length ls ≡ 68 → is_constant 0 ls ≡ true → length gs ≡ 68 → is_constant 9 gs ≡ true
    → code_with ws (take n ls) (take n gs) ≡ mod_97_10 n
is_code n ws ls gs most count weights l_count l g_count g =
    rw (from_right_of_entries n ws (λ j. 10 ^ j % 97) count weights)
    (rw (take_of_constant 0 n ls most l_count l) (rw (take_of_constant 9 n gs most g_count g) refl))

-- the digits of one more character
pub more_digits : (f : ℕ → List ℕ) (text : List ℕ) (i : ℕ) → i < length text
    → flat_map f (take (i + 1) text) ≡ flat_map f (take i text) ++ f (get_or text i 0)
more_digits f text i l =
    rw (take_more text i 0 l) (search (arith, flat_map-append, append-nil))

-- the places that the digits take
pub room_left : (e s i n d room : ℕ) → e ≤ s + 2 * i → i < n → s + 2 * n ≤ d → room ≡ d → e + 2 ≤ room
room_left e s i n d room so_far l whole same = omega arith

pub room_next : (e r s i : ℕ) → e ≤ s + 2 * i → r ≤ e + 2 → r ≤ s + 2 * (i + 1)
room_next e r s i so_far next = omega arith

pub room_within : (e s i n : ℕ) → e ≤ s + 2 * i → i ≤ n → e ≤ s + 2 * n
room_within e s i n so_far l = omega arith

pub rest_after_four_is_whole : (text : List ℕ) → take (length text - 4) (drop 4 text) ≡ drop 4 text
rest_after_four_is_whole text = take_all (length text - 4) (drop 4 text) (omega (arith, length-drop 4 text))

pub first_room : (text : List ℕ) → 5 ≤ length text → length text ≤ 34
    → 0 + 2 * length (take (length text - 4) (drop 4 text)) ≤ 68
first_room text least most = omega (arith, ap length (rest_after_four_is_whole text), length-drop 4 text)

pub both_rooms : (text : List ℕ) (e : ℕ) → 5 ≤ length text → length text ≤ 34
    → e ≤ 0 + 2 * length (take (length text - 4) (drop 4 text)) → e + 2 * length (take 4 text) ≤ 68
both_rooms text e least most first =
    omega (arith, ap length (rest_after_four_is_whole text), length-drop 4 text, length-take-le 4 text (omega arith))
