-- Lists of forms, and their values. The names are the library's own words.
use Rattle.std.specs.Prelude.{◌≡◌, ℕ, ◌+◌, ◌*◌, ◌<◌, List, map, length, slice_index, slice_index_or}
use Rattle.modular_word.specs.Sums.{sum_below}
use Rattle.modular_reduced.specs.Forms.{Represents}

-- the values of forms, by the numbers of the forms
abbrev pub values_of : {T : Type 0} → (T → ℕ) → (ℕ → ℕ → ℕ) → ℕ → List T → List ℕ
values_of number value m forms = map (λ f. value m (number f)) forms

-- the form at each index i is that of the value v i
pub record HoldValues {T : Type 0} (number : T → ℕ) (form : ℕ → ℕ → ℕ) (m : ℕ)
    (forms : List T) (v : ℕ → ℕ) : Type 0 where
  pub each : (i : ℕ) (d : T) → i < length forms → Represents form m (number (slice_index_or forms i d)) (v i)

-- the sum of the products of the values of two lists, entry by entry
abbrev pub sum_of_products : {T : Type 0} → (T → ℕ) → (ℕ → ℕ → ℕ) → ℕ → List T → List T → ℕ
sum_of_products number value m xs ys =
    sum_below (length xs)
    (λ i. slice_index (values_of number value m xs) i * slice_index (values_of number value m ys) i)

-- s is the sum of the products of the words at the indexes from `from` to `to` - 1
abbrev pub IsSumOfProducts : {T : Type 0} → (T → ℕ) → List T → List T → ℕ → ℕ → ℕ → Type 0
IsSumOfProducts number xs ys from to s =
    s + sum_below from (λ i. slice_index (map number xs) i * slice_index (map number ys) i)
    ≡ sum_below to (λ i. slice_index (map number xs) i * slice_index (map number ys) i)
