-- What Damm's check digit detects.
use Rattle.std.proofs.Common.{◌≡◌, ℕ, ◌≤◌, true, nat_lt, nat_eq}
use Rattle.std.proofs.Math.ListN.{get_or-append}
use Rattle.std.proofs.Math.Seq.{get_or-append_seam}
use Rattle.std.proofs.Common.{List, [], ◌∷◌, ◌++◌, All, length, get_or, set, sym, ◌∙◌, refl, arith}
use Rattle.std.proofs.Common.{length-set, get_or-set_same, get_or-set_other}
use Rattle.std.proofs.lemmas.Bool.{ltb-true, eqb-true}
use Rattle.check_digits.specs.Codes.{exchanged, FindsEachChange, FindsEachExchange, IsCheckSymbol}
use Rattle.check_digits.specs.Damm.{damm_product, damm_check, IsDamm}
use Rattle.check_digits.proofs.Decisions.{each_below, each_passes, is_asymmetric_by_test, IsAsymmetric}
use Rattle.check_digits.proofs.States.{Distinguishes, changed_apart, exchanged_apart, state_same, state_next}
use Rattle.check_digits.proofs.States.{state_most, one_more, all_more}

pub product_small : (a b : ℕ) → a ≤ 9 → b ≤ 9 → damm_product a b ≤ 9
product_small a b a_most b_most =
    let t : nat_lt (damm_product a b) 10 ≡ true =
    each_passes 10 (λ b. nat_lt (damm_product a b) 10)
    (each_passes 10 (λ a. each_below 10 (λ b. nat_lt (damm_product a b) 10)) refl a (omega arith)) b (omega arith) in
    search (arith, ltb-true)

pub damm_rows_apart : IsAsymmetric (λ c a b. damm_product c a)
damm_rows_apart = is_asymmetric_by_test (λ c a b. damm_product c a) refl

damm_columns_apart : IsAsymmetric (λ c a b. damm_product a c)
damm_columns_apart = is_asymmetric_by_test (λ c a b. damm_product a c) refl

ordered_entries : IsAsymmetric (λ c a b. damm_product (damm_product c a) b)
ordered_entries = is_asymmetric_by_test (λ c a b. damm_product (damm_product c a) b) refl

abbrev pub damm_step : ℕ → ℕ → ℕ → ℕ
damm_step i c d = damm_product c d

damm_distinguishes : Distinguishes damm_step
damm_distinguishes = search (arith, product_small, damm_columns_apart, damm_rows_apart, ordered_entries)

pub damm_changes : FindsEachChange IsDamm
damm_changes word i digit is within apart_ changed =
    let new = set word i digit in
    let count = length-set word i digit in
    let told = changed_apart damm_step 0 (λ j. get_or word j 0) (λ j. get_or new j 0) i (length word) damm_distinguishes
    (omega arith) within (λ j. is.digits j 0) (λ j l. changed.digits j 0 (omega (arith, count, l)))
    (λ j _ ne. sym (get_or-set_other word i j digit 0 ne)) (is.product ∙ sym (rw (sym count) changed.product)) in
    search (arith, told, get_or-set_same)

pub damm_exchanges : FindsEachExchange IsDamm
damm_exchanges word i is within apart_ changed =
    let new = exchanged word i in
    let count : length new ≡ length word = search (arith, length-set) in
    apart_ (exchanged_apart damm_step 0 (λ j. get_or word j 0) (λ j. get_or new j 0) i (length word) damm_distinguishes
    (omega arith) within (λ j. is.digits j 0) (λ j l. changed.digits j 0 (omega (arith, count, l)))
    (λ j _ no nor. search (arith, get_or-set_other)) (search (arith, get_or-set_other, get_or-set_same))
    (search (arith, length-set, get_or-set_same)) (is.product ∙ sym (rw (sym count) changed.product)))

-- the product of a word with one more digit
damm_check_of_appended_digit : (word : List ℕ) (s : ℕ) → damm_check (word ++ s ∷ []) ≡ damm_product (damm_check word) s
damm_check_of_appended_digit word s =
    search (arith, one_more, state_next, state_same, get_or-append, get_or-append_seam)

damm_squares_vanish : (a : ℕ) → a ≤ 9 → damm_product a a ≡ 0
damm_squares_vanish a most =
    eqb-true (damm_product a a) 0 (each_passes 10 (λ a. nat_eq (damm_product a a) 0) refl a (omega arith))

pub damm_completed : (word : List ℕ) → All (λ d. d ≤ 9) word → IsCheckSymbol 10 IsDamm word (damm_check word)
damm_completed word all =
    let c = damm_check word in
    let most : c ≤ 9 = state_most damm_step _ _ _ damm_distinguishes.closed (omega arith) (λ j. all j 0) in
    record {
      below = omega (arith, most);
      accepted = search (arith, one_more, all_more, damm_check_of_appended_digit, damm_squares_vanish);
      only = λ t l is. damm_rows_apart _ t _ most (omega (arith, l)) most
          (sym (damm_check_of_appended_digit _ t) ∙ is.product ∙ sym (damm_squares_vanish _ most));
    }
