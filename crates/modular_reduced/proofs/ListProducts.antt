-- What is read of a list of forms, and a sum of products of two lists, term by term modulo m.
use Rattle.std.proofs.Common.{◌≡◌, ℕ, suc, ◌+◌, ◌*◌, ◌%◌, ◌<◌, List, [], ◌∷◌, length, map, get_or, All}
use Rattle.std.proofs.Common.{sym, ◌∙◌, ap, arith, subst}
use Rattle.std.proofs.Math.Nat.{mod-eq_of_lt}
use Rattle.std.proofs.lemmas.List.{get_or-map, length-map}
use Rattle.std.proofs.lemmas.Simd.{map-map}
use Rattle.modular_word.specs.Congruence.{Congruent}
use Rattle.modular_word.specs.Sums.{sum_below}
use Rattle.modular_word.proofs.Congruence.{mod_of_eq, mod_trans, mod_add, residue_of}
use Rattle.modular_word.proofs.Sums.{sum_below-zero, sum_below-suc, sum_below-same}
use Rattle.modular_reduced.specs.Entries.{entry}
use Rattle.modular_reduced.specs.Forms.{IsForm}
use Rattle.modular_reduced.specs.Values.{sum_of_products}

-- the value s and no product
pub products_none : (m s : ℕ) (f : ℕ → ℕ) → s < m → s ≡ (s + sum_below 0 f) % m
products_none m s f below = grind (arith, sum_below-zero, mod-eq_of_lt)

-- one product more
pub product_extends_residue_sum : (m s i t x y : ℕ) (f : ℕ → ℕ) → t ≡ (s + sum_below i f) % m → x * y ≡ f i
    → (t + x * y % m) % m ≡ (s + sum_below (i + 1) f) % m
product_extends_residue_sum m s i t x y f so_far term =
    let e : suc i ≡ i + 1 = omega arith in
    let sum : s + sum_below i f + f i ≡ s + sum_below (i + 1) f =
    grind (arith, sum_below-suc) in
    let c : Congruent m (t + x * y % m) (s + sum_below i f + x * y) =
    mod_add (mod_trans (mod_of_eq so_far) (residue_of (s + sum_below i f))) (residue_of (x * y)) in
    grind arith

-- the value at an index is that of the number there
number_value : {T : Type 0} (number : T → ℕ) (value : ℕ → ℕ → ℕ) (m : ℕ) (forms : List T) (i : ℕ) → i < length forms
    → entry number value m forms i ≡ value m (get_or (map number forms) i 0)
number_value number value m forms i below =
    let within : i < length (map number forms) = subst (λ n. i < n) (sym (length-map forms number)) below in
    ap (λ vs. get_or vs i 0) (sym (map-map (value m) number forms))
    ∙ get_or-map (value m) (map number forms) i 0 0 within

-- which is a checked form where all are
pub number_checked : {T : Type 0} (number : T → ℕ) (form value : ℕ → ℕ → ℕ) (m : ℕ) (forms : List T) (i : ℕ)
    → All (λ f. IsForm form value m (number f)) forms → i < length forms
    → IsForm form value m (get_or (map number forms) i 0)
number_checked number form value m [] i all below = absurd (omega arith)
number_checked number form value m (x ∷ xs) i all below =
    subst (IsForm form value m) (sym (get_or-map number (x ∷ xs) i x 0 below)) (all i x below)

-- the sum of the products, by the numbers
pub products_of_numbers : {T : Type 0} (number : T → ℕ) (value : ℕ → ℕ → ℕ) (m : ℕ) (xs ys : List T)
    → length ys ≡ length xs
    → sum_below (length xs) (λ i. value m (get_or (map number xs) i 0) * value m (get_or (map number ys) i 0))
    ≡ sum_of_products number value m xs ys
products_of_numbers number value m xs ys equal = grind (arith, sum_below-same, length, get_or, map, number_value)
