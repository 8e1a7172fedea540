-- What Luhn's check digit finds.
use Rattle.std.proofs.Common.{◌≡◌, ◌≢◌, ◌↔◌, ◌⊎◌, ℕ, suc, ◌+◌, ◌-◌, ◌*◌, ◌/◌, ◌%◌, ◌<◌, ◌≤◌}
use Rattle.std.proofs.Math.ListN.{get_or-append}
use Rattle.std.proofs.Math.Seq.{get_or-append_seam}
use Rattle.std.proofs.Common.{List, [], ◌∷◌, ◌++◌, All, length, length-append, get_or, set, arith}
use Rattle.std.proofs.Common.{length-set, get_or-set_same, get_or-set_other}
use Rattle.std.proofs.lemmas.List.Elements.{All-set}
use Rattle.num_modular.specs.NumberLaws.{sum_below-more, sum_below-same}
use Rattle.check_digits.specs.Codes.{exchanged, FindsEachChange, IsCheckSymbol}
use Rattle.check_digits.specs.Luhn.{luhn_value, luhn_sum, IsLuhn, LuhnFindsAllButNines}
use Rattle.check_digits.proofs.CheckSums.{sums_differ_by_one_term}
use Rattle.check_digits.proofs.States.{one_more, all_more}

-- the sum of a word
abbrev whole_sum : List ℕ → ℕ
whole_sum word = luhn_sum (length word) word

-- what a doubled digit counts
abbrev doubled : ℕ → ℕ
doubled d = 2 * d / 10 + 2 * d % 10

-- digits that count the same at a place are equal
value_apart : (j d e : ℕ) → d ≤ 9 → e ≤ 9 → luhn_value j d % 10 ≡ luhn_value j e % 10 → d ≡ e
value_apart j d e d_most e_most same = grind arith

-- the sum of a word with one digit changed
changed_luhn : (xs : List ℕ) (p d : ℕ) → p < length xs
    → whole_sum (set xs p d) + luhn_value (length xs - 1 - p) (get_or xs p 0)
    ≡ whole_sum xs + luhn_value (length xs - 1 - p) d
changed_luhn xs p d h =
    let value = λ (ys : List ℕ) (i : ℕ). luhn_value (length xs - 1 - i) (get_or ys i 0) in
    let moved = sums_differ_by_one_term (value (set xs p d)) (value xs) p (length xs)
    (λ i ne. search (arith, get_or-set_other)) h in
    grind (arith, length-set, get_or-set_same)

-- every change is found
pub luhn_changes : FindsEachChange IsLuhn
luhn_changes word i digit is within apart changed =
    let moved = changed_luhn word i digit within in
    let new = changed.digits i 0 (omega (arith, length-set word i digit, within)) in
    search (arith, new, value_apart, get_or-set_same)

-- 0 and 9, in either order
abbrev AreNines : ℕ → ℕ → Type 0
AreNines x y = ((x ≡ 0) × (y ≡ 9)) ⊎ ((x ≡ 9) × (y ≡ 0))

-- what two neighbours count, and what they count exchanged
abbrev counted : ℕ → ℕ → ℕ → ℕ
counted j x y = luhn_value (suc j) x + luhn_value j y

counts_same : (j x y : ℕ) → x ≤ 9 → y ≤ 9 → x ≢ y
    → (counted j x y % 10 ≡ counted j y x % 10) ↔ AreNines x y
counts_same j x y x_most y_most apart = grind arith

-- the sum of a word with two neighbours exchanged
exchanged_luhn : (xs : List ℕ) (p : ℕ) → suc p < length xs
    → whole_sum (exchanged xs p) + counted (length xs - 1 - suc p) (get_or xs p 0) (get_or xs (suc p) 0)
    ≡ whole_sum xs + counted (length xs - 1 - suc p) (get_or xs (suc p) 0) (get_or xs p 0)
exchanged_luhn xs p h = search (arith, changed_luhn, length-set, get_or-set_other)

-- the exchanges that aren't found
pub luhn_exchanges : LuhnFindsAllButNines
luhn_exchanges word i is within apart =
    let x = get_or word i 0 in
    let y = get_or word (suc i) 0 in
    let x_most : x ≤ 9 = is.digits i 0 (omega (arith, within)) in
    let y_most : y ≤ 9 = is.digits (suc i) 0 within in
    let moved = exchanged_luhn word i within in
    let told = counts_same (length word - 1 - suc i) x y x_most y_most apart in (
      search arith,
      λ nines.
          let same = told.1 nines in
          record {
            least = search (arith, is.least, length-set);
            digits = All-set (λ d. d ≤ 9) _ (suc i) x x_most (All-set (λ d. d ≤ 9) word i y y_most is.digits);
            multiple = omega (arith, moved, same);
          },
    )

-- the sum of a word with one more digit
more_sum : (word : List ℕ) (s : ℕ) → whole_sum (word ++ s ∷ []) ≡ luhn_sum (length word + 1) word + s
more_sum word s = search (arith, length-append, sum_below-more, sum_below-same, get_or-append, get_or-append_seam)

pub luhn_completed : (word : List ℕ) (v : ℕ) → All (λ d. d ≤ 9) word → v ≡ luhn_sum (length word + 1) word % 10
    → IsCheckSymbol 10 IsLuhn word ((10 - v) % 10)
luhn_completed word v all is = search (arith, more_sum, one_more, all_more)
