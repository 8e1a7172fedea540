-- What Verhoeff's check digit detects.
use Rattle.std.proofs.Common.{◌≡◌, ℕ, zero, suc, ◌+◌, ◌-◌, ◌*◌, ◌/◌, ◌%◌, ◌<◌, ◌≤◌, Bool, true, nat_lt, nat_eq}
use Rattle.std.proofs.Common.{if◌then◌else◌}
use Rattle.std.proofs.Math.ListN.{get_or-append}
use Rattle.std.proofs.Math.Seq.{get_or-append_seam}
use Rattle.std.proofs.Common.{List, [], ◌∷◌, ◌++◌, All, length, get_or, set, sym, ap, ◌∙◌, refl, arith}
use Rattle.std.proofs.Common.{length-set, get_or-set_same, get_or-set_other}
use Rattle.std.proofs.lemmas.Bool.{ltb-true, eqb-true}
use Rattle.check_digits.specs.Codes.{exchanged, FindsEachChange, FindsEachExchange, IsCheckSymbol}
use Rattle.check_digits.specs.Verhoeff.{dihedral, permuted, image, verhoeff_product, IsVerhoeff}
use Rattle.check_digits.specs.States.{state_after}
use Rattle.check_digits.proofs.Decisions.{each_below, each_passes, is_asymmetric_by_test, IsAsymmetric}
use Rattle.check_digits.proofs.States.{Distinguishes, changed_apart, exchanged_apart, state_first, state_same}
use Rattle.check_digits.proofs.States.{state_next, state_most, state_later, one_more, all_more}

pub dihedral_small : (a b : ℕ) → dihedral a b ≤ 9
dihedral_small a b = omega arith

pub left_cancels : IsAsymmetric (λ c a b. dihedral c a)
left_cancels = is_asymmetric_by_test (λ c a b. dihedral c a) refl

right_cancels : IsAsymmetric (λ c a b. dihedral a c)
right_cancels = is_asymmetric_by_test (λ c a b. dihedral a c) refl

ordered_products : IsAsymmetric (λ c a b. dihedral (dihedral c a) (permuted b))
ordered_products = is_asymmetric_by_test (λ c a b. dihedral (dihedral c a) (permuted b)) refl

permuted_apart : IsAsymmetric (λ c a b. permuted a)
permuted_apart = is_asymmetric_by_test (λ c a b. permuted a) refl

dihedral_associates : (a b c : ℕ) → a ≤ 9 → b ≤ 9 → c ≤ 9 → dihedral a (dihedral b c) ≡ dihedral (dihedral a b) c
dihedral_associates a b c a_most b_most c_most = search (arith, eqb-true, each_passes)

unit_behind : (a : ℕ) → a ≤ 9 → dihedral a 0 ≡ a
unit_behind a most = grind (arith, most)

unit_before : (a : ℕ) → a ≤ 9 → dihedral 0 a ≡ a
unit_before a most = grind (arith, most)

-- the inverse: that of a rotation, and a reflection itself
abbrev pub inverse_of : ℕ → ℕ
inverse_of a = if nat_lt a 5 then (5 - a) % 5 else a

inverse_small : (a : ℕ) → a ≤ 9 → inverse_of a ≤ 9
inverse_small a most = grind (arith, most)

inverse_cancels : (a : ℕ) → a ≤ 9 → dihedral (inverse_of a) a ≡ 0
inverse_cancels a most = grind (arith, most)

permuted_small : (a : ℕ) → a ≤ 9 → permuted a ≤ 9
permuted_small a most = search (arith, ltb-true, each_passes)

pub image_small : (k d : ℕ) → d ≤ 9 → image k d ≤ 9
unfolding image
image_small zero d most = most
image_small (suc k) d most = permuted_small (image k d) (image_small k d most)

image_apart : (k a b : ℕ) → a ≤ 9 → b ≤ 9 → image k a ≡ image k b → a ≡ b
unfolding image
image_apart zero a b a_most b_most same = same
image_apart (suc k) a b a_most b_most same =
    image_apart k a b a_most b_most
    (permuted_apart 0 _ _ (omega arith) (image_small k a a_most) (image_small k b b_most) same)

-- the step at a place, the first place being that of the last digit
abbrev pub verhoeff_step : ℕ → ℕ → ℕ → ℕ → ℕ
verhoeff_step first i c d = dihedral c (image (i + first) d)

image_step : (first i d : ℕ) → image (suc i + first) d ≡ permuted (image (i + first) d)
unfolding image
image_step first i d = search arith

pub verhoeff_distinguishes : (first : ℕ) → Distinguishes (verhoeff_step first)
verhoeff_distinguishes first = record {
  closed = λ i c d _ _. dihedral_small c (image (i + first) d);
  states = search (arith, right_cancels, image_small);
  digits = search (arith, image_apart, left_cancels, image_small);
  orders = search (arith, image_apart, ordered_products, image_small, image_step);
}

digit_at : (word : List ℕ) → All (λ d. d ≤ 9) word → (n : ℕ) → length word ≡ n → (j : ℕ) → j < n
    → get_or word (n - 1 - j) 0 ≤ 9
digit_at word all n count j l = all (n - 1 - j) 0 (omega (arith, count))

product_by : (word : List ℕ) (n : ℕ) → length word ≡ n
    → verhoeff_product 0 word ≡ state_after (verhoeff_step 0) 0 (λ j. get_or word (n - 1 - j) 0) n
product_by word n count = ap (λ n. state_after (verhoeff_step 0) 0 (λ j. get_or word (n - 1 - j) 0) n) count

pub verhoeff_changes : FindsEachChange IsVerhoeff
verhoeff_changes word i digit is within apart_ changed =
    let n = length word in
    let new = set word i digit in
    let count : length new ≡ n = length-set word i digit in
    let told = changed_apart (verhoeff_step 0) 0 (λ j. get_or word (n - 1 - j) 0) (λ j. get_or new (n - 1 - j) 0)
    (n - 1 - i) n (verhoeff_distinguishes 0) (omega arith) (omega (arith, within)) (digit_at word is.digits n refl)
    (digit_at new changed.digits n count) (λ j l ne. search (arith, get_or-set_other))
    (is.product ∙ sym (sym (product_by new n count) ∙ changed.product)) in
    let place : n - 1 - (n - 1 - i) ≡ i = omega (arith, within) in
    grind (arith, told, get_or-set_same)

pub verhoeff_exchanges : FindsEachExchange IsVerhoeff
verhoeff_exchanges word i is within apart_ changed =
    let n = length word in
    let p = n - 1 - suc i in
    let new = exchanged word i in
    let count : length new ≡ n = search (arith, length-set) in
    let first : n - 1 - p ≡ suc i = omega (arith, within) in
    let second : n - 1 - suc p ≡ i = omega (arith, within) in
    let told = exchanged_apart (verhoeff_step 0) 0 (λ j. get_or word (n - 1 - j) 0) (λ j. get_or new (n - 1 - j) 0) p n
    (verhoeff_distinguishes 0) (omega arith) (omega (arith, within)) (digit_at word is.digits n refl)
    (digit_at new changed.digits n count) (λ j l no nor. search (arith, get_or-set_other))
    (search (arith, length-set, get_or-set_same)) (search (arith, get_or-set_other, get_or-set_same))
    (is.product ∙ sym (sym (product_by new n count) ∙ changed.product)) in
    search (arith, told)

-- the product from another state on
from_state : (first start n : ℕ) (f : ℕ → ℕ) → start ≤ 9 → ((j : ℕ) → j < n → f j ≤ 9)
    → state_after (verhoeff_step first) start f n ≡ dihedral start (state_after (verhoeff_step first) 0 f n)
from_state first start zero f most digits = search (arith, state_first, unit_behind)
from_state first start (suc n) f most digits =
    let before = from_state first start n f most (λ j l. digits j (omega arith)) in
    search (arith, before, state_next, dihedral_associates, state_most, verhoeff_distinguishes, image_small)

-- the product of a word with one more digit
verhoeff_product_of_appended_digit : (word : List ℕ) (s : ℕ) → All (λ d. d ≤ 9) word → s ≤ 9
    → verhoeff_product 0 (word ++ s ∷ []) ≡ dihedral s (verhoeff_product 1 word)
unfolding image
verhoeff_product_of_appended_digit word s all most =
    let n = length word in
    let f : ℕ → ℕ = λ j. get_or (word ++ s ∷ []) (suc n - 1 - j) 0 in
    let last : suc n - 1 - 0 ≡ n = omega arith in
    let first : verhoeff_step 0 0 0 (f 0) ≡ s = search (arith, get_or-append_seam, unit_before) in
    product_by (word ++ s ∷ []) _ (one_more _ _)
    ∙ state_later (verhoeff_step 0) (verhoeff_step 1) _ _ _ (λ i c d. search arith)
    ∙ ap (λ c. state_after (verhoeff_step 1) c (λ j. f (suc j)) n) first
    ∙ state_same (verhoeff_step 1) _ _ _ _
    (λ j l. search (arith, get_or-append))
    ∙ from_state _ _ _ _ most (digit_at _ all _ refl)

pub verhoeff_completed : (word : List ℕ) (v s : ℕ) → All (λ d. d ≤ 9) word → v ≡ verhoeff_product 1 word
    → s ≡ inverse_of v → IsCheckSymbol 10 IsVerhoeff word s
verhoeff_completed word v s all is inverse =
    grind (
      arith,
      state_most,
      verhoeff_distinguishes,
      digit_at,
      inverse_small,
      one_more,
      all_more,
      verhoeff_product_of_appended_digit,
      inverse_cancels,
      right_cancels,
    )

-- the permutation is the identity after eight steps
eight_steps_keep_image : (k a : ℕ) → a ≤ 9 → image (8 + k) a ≡ image k a
unfolding image
eight_steps_keep_image zero a most =
    eqb-true (image 8 a) a (each_passes 10 (λ a. nat_eq (image 8 a) a) refl a (omega arith))
eight_steps_keep_image (suc k) a most =
    let e : 8 + suc k ≡ suc (8 + k) = omega arith in ap (λ k. image k a) e
    ∙ ap permuted (eight_steps_keep_image k a most)

image_eights : (q k d : ℕ) → d ≤ 9 → image (k + 8 * q) d ≡ image k d
image_eights zero k d most = search arith
image_eights (suc q) k d most =
    let e : k + 8 * suc q ≡ 8 + (k + 8 * q) = omega arith in
    ap (λ k. image k d) e ∙ eight_steps_keep_image _ d most ∙ image_eights q k d most

pub image_residue : (k d : ℕ) → d ≤ 9 → image k d ≡ image (k % 8) d
image_residue k d most =
    let e : k ≡ k % 8 + 8 * (k / 8) = omega arith in ap (λ k. image k d) e ∙ image_eights (k / 8) _ d most

-- the images at eight places, ten digits each
abbrev row : ℕ → List ℕ
row k = image k 0 ∷ image k 1 ∷ image k 2 ∷ image k 3 ∷ image k 4 ∷ image k 5 ∷ image k 6 ∷ image k 7 ∷ image k 8
    ∷ image k 9 ∷ []

abbrev pub images : List ℕ
images = row 0 ++ row 1 ++ row 2 ++ row 3 ++ row 4 ++ row 5 ++ row 6 ++ row 7

abbrev image_test : ℕ → ℕ → Bool
image_test k d = nat_eq (get_or images (10 * k + d) 0) (image k d)

images_pass : each_below 8 (λ k. each_below 10 (image_test k)) ≡ true
unfolding image
images_pass = refl

pub image_read : (k d : ℕ) → d ≤ 9 → get_or images (10 * (k % 8) + d) 0 ≡ image k d
image_read k d most =
    let test = each_passes 8 (λ k. each_below 10 (image_test k)) images_pass (k % 8) (omega arith) in
    eqb-true _ _ (each_passes 10 (image_test (k % 8)) test d (omega arith)) ∙ sym (image_residue k d most)
