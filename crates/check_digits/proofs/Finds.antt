-- What the codes of standards find.
use Rattle.std.proofs.Common.{Bool, true, ◌&&◌, ◌||◌, nat_eq, nat_lt, ◌↔◌, ◌≡◌, ℕ, zero, suc, ◌+◌, ◌-◌, ◌*◌, ◌%◌, ◌^◌}
use Rattle.std.proofs.Common.{◌<◌, ◌≤◌, List, length, get_or, sym, ap, refl, arith}
use Rattle.std.proofs.lemmas.Bool.{and_parts, or_cases, eqb-true, ltb-true}
use Rattle.std.proofs.lemmas.Nat.{mul-mod_first}
use Rattle.check_digits.specs.Codes.{CheckCode, Fits, IsCodeword, exchanged}
use Rattle.check_digits.specs.Codes.{FindsEachChange, FindsEachExchange, FindsAllButFives}
use Rattle.check_digits.specs.Standards.{from_right, mod_97_10}
use Rattle.check_digits.proofs.Characters.{each_character_change_found}
use Rattle.check_digits.proofs.CheckSums.{unit_cofactor_residue_is_zero, residues_equal_by_zero_difference}
use Rattle.check_digits.proofs.CheckSums.{a_difference}
use Rattle.check_digits.proofs.DammDigits.{damm_changes, damm_exchanges}
use Rattle.check_digits.proofs.Decisions.{each_below, each_passes}
use Rattle.check_digits.proofs.Codewords.{changed_word, exchanged_word}
use Rattle.check_digits.proofs.VerhoeffDigits.{verhoeff_changes, verhoeff_exchanges}

-- the test of a place: its symbols are residues, and its weight has an inverse, a power of it
abbrev change_test : CheckCode → ℕ → ℕ → Bool
change_test code power i =
    let w = get_or code.weights i 0 in
    nat_lt (get_or code.greatest i 0) code.modulus && nat_eq ((w * w ^ power) % code.modulus) (1 % code.modulus)

abbrev pub Passes : CheckCode → ℕ → Type 0
Passes code power = each_below (length code.weights) (change_test code power) ≡ true

place_tested : (code : CheckCode) (power : ℕ) → Passes code power → (i : ℕ) → i < length code.weights
    → (get_or code.greatest i 0 < code.modulus)
    × ((get_or code.weights i 0 * get_or code.weights i 0 ^ power) % code.modulus ≡ 1 % code.modulus)
place_tested code power h i l =
    let both = and_parts _ _ (each_passes _ (change_test code power) h i l) in
    (ltb-true _ _ both.0, eqb-true _ _ both.1)

-- where each place passes, every change is found
pub changes_tested : (code : CheckCode) (power : ℕ) → Passes code power → FindsEachChange (IsCodeword code)
changes_tested code power h word i s is within apart changed =
    let unit = place_tested code power h i (omega (arith, is.places)) in
    let x_below : get_or word i 0 < code.modulus = omega (arith, unit, (is.symbols i within).greatest) in
    let difference = a_difference code.modulus (get_or word i 0) s x_below in
    let both = (changed_word code word i s _ is within difference).0 changed in
    let s_below : s < code.modulus = omega arith in
    apart (residues_equal_by_zero_difference _ _ _ s x_below s_below difference (unit_cofactor_residue_is_zero _ _ _ _
    unit.1 both.1))

-- a difference of the weights at i and at the next place, and its test
abbrev pub step_at : CheckCode → ℕ → ℕ
step_at code i = get_or code.weights i 0 + (code.modulus - 1) * get_or code.weights (suc i) 0

abbrev step_test : CheckCode → ℕ → Bool
step_test code i =
    nat_eq ((step_at code i + get_or code.weights (suc i) 0) % code.modulus) (get_or code.weights i 0 % code.modulus)

exchanged_by_step : (code : CheckCode) (word : List ℕ) (i : ℕ) → step_test code i ≡ true
    → get_or word i 0 < code.modulus → IsCodeword code word → suc i < length word → IsCodeword code (exchanged word i)
    ↔ (Fits code i (get_or word (suc i) 0) × Fits code (suc i) (get_or word i 0)
    × ((step_at code i * (get_or word (suc i) 0 + (code.modulus - get_or word i 0))) % code.modulus ≡ 0))
exchanged_by_step code word i step x_below is within =
    exchanged_word code word i _ _ is within (eqb-true _ _ step) (a_difference _ _ _ x_below)

-- where each difference has an inverse, a power of it, every exchange is found
abbrev exchange_test : CheckCode → ℕ → ℕ → Bool
exchange_test code power i =
    step_test code i && nat_eq ((step_at code i * step_at code i ^ power) % code.modulus) (1 % code.modulus)

pub exchanges_tested : (code : CheckCode) (power : ℕ) → Passes code power
    → each_below (length code.weights - 1) (exchange_test code power) ≡ true → FindsEachExchange (IsCodeword code)
exchanges_tested code power h tested word i is within apart changed =
    let x_below : get_or word i 0 < code.modulus =
    omega (arith, place_tested code power h i (omega (arith, is.places)), (is.symbols i (omega arith)).greatest) in
    let y_below : get_or word (suc i) 0 < code.modulus =
    omega (arith, place_tested code power h (suc i) (omega (arith, is.places)), (is.symbols (suc i) within).greatest) in
    let test = exchange_test code power in
    let at = and_parts _ _ (each_passes (length code.weights - 1) test tested i (omega (arith, is.places))) in
    let both = (exchanged_by_step code word i at.0 x_below is within).0 changed in
    apart (sym (residues_equal_by_zero_difference _ _ _ _ x_below y_below (a_difference _ _ _ x_below)
    (unit_cofactor_residue_is_zero _ _ _ _ (eqb-true _ _ at.1) both.2)))

-- modulo 10, a product with 2, 6 or 8
abbrev is_twice : ℕ → Bool
is_twice e = nat_eq (e % 10) 2 || (nat_eq (e % 10) 6 || nat_eq (e % 10) 8)

five_by : (e d : ℕ) → is_twice e ≡ true → ((e * d) % 10 ≡ 0) ↔ (d % 5 ≡ 0)
five_by e d twice =
    let product : (e * d) % 10 ≡ (e % 10 * d) % 10 = sym (mul-mod_first e d 10) in
    grind (arith, or_cases, eqb-true)

-- and the difference of two digits
same_modulo_5 : (x y : ℕ) → x < 10 → ((y + (10 - x)) % 5 ≡ 0) ↔ (x % 5 ≡ y % 5)
same_modulo_5 x y l = ((λ h. omega (arith, h)), λ h. omega (arith, h))

-- a code modulo 10 whose neighbouring weights differ by 2, 6 or 8
abbrev pub modulo_10 : ℕ → List ℕ → List ℕ → List ℕ → CheckCode
modulo_10 r weights least greatest =
    record { modulus = 10; residue = r; weights = weights; least = least; greatest = greatest }

abbrev five_test : CheckCode → ℕ → Bool
five_test code i = step_test code i && is_twice (step_at code i)

pub fives_tested : (r : ℕ) (ws ls gs : List ℕ) → Passes (modulo_10 r ws ls gs) 3
    → each_below (length ws - 1) (five_test (modulo_10 r ws ls gs)) ≡ true → FindsAllButFives (modulo_10 r ws ls gs)
fives_tested r ws ls gs h tested word i is within =
    let code = modulo_10 r ws ls gs in
    let x_below : get_or word i 0 < 10 =
    omega (arith, place_tested code 3 h i (omega (arith, is.places)), (is.symbols i (omega arith)).greatest) in
    let at = and_parts _ _ (each_passes (length ws - 1) (five_test code) tested i (omega (arith, is.places))) in
    let word_is = exchanged_by_step code word i at.0 x_below is within in
    search (arith, five_by, same_modulo_5)

-- lists from the right
pub length-from_right : (n : ℕ) (f : ℕ → ℕ) → length (from_right n f) ≡ n
unfolding from_right
length-from_right zero f = refl
length-from_right (suc n) f = ap suc (length-from_right n f)

pub get_or-from_right : (n : ℕ) (f : ℕ → ℕ) (i : ℕ) → i < n → get_or (from_right n f) i 0 ≡ f (n - 1 - i)
unfolding from_right
get_or-from_right zero f i l = absurd (omega (arith, l))
get_or-from_right (suc n) f zero l = let here : n ≡ suc n - 1 - 0 = omega arith in ap f here
get_or-from_right (suc n) f (suc i) l = search (arith, get_or-from_right n f i (omega (arith, l)))

-- the digits of an IBAN, of each length
abbrev test_97 : ℕ → Bool
test_97 n = let code = mod_97_10 n in let k = length code.weights in
    each_below k (change_test code 95) && each_below (k - 1) (exchange_test code 95)

ibans_pass : each_below 69 test_97 ≡ true
unfolding from_right
ibans_pass = refl

pub of_iban : (n : ℕ) → n ≤ 68 → FindsEachChange (IsCodeword (mod_97_10 n))
    × FindsEachExchange (IsCodeword (mod_97_10 n))
of_iban n most =
    let tests = and_parts _ _ (each_passes 69 test_97 ibans_pass n (omega (arith, most))) in
    (changes_tested (mod_97_10 n) 95 tests.0, exchanges_tested (mod_97_10 n) 95 tests.0 tests.1)

-- what the codes of the standards detect, but for what `standard_finds` answers
pub ruleset found_by_standards = (
  each_character_change_found,
  verhoeff_changes,
  verhoeff_exchanges,
  damm_changes,
  damm_exchanges,
)
