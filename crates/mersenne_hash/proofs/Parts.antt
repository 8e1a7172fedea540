-- The hash of a part of a text, by those of two beginnings.
use Rattle.std.proofs.Common.{◌≡◌, ℕ, ◌+◌, ◌-◌, ◌*◌, ◌%◌, ◌^◌, ◌<◌, ◌≤◌, List, length, slice_index, slice_range, get_or}
use Rattle.std.proofs.Common.{map}
use Rattle.std.proofs.Common.{arith, ap, ap₂, sym, ◌∙◌, length-drop, mod-eq_of_lt}
use Rattle.std.proofs.Math.Nat.{add-mod-mod, mod-mod}
use Rattle.std.proofs.lemmas.Nat.{mul-mod}
use Rattle.std.proofs.lemmas.List.{length-take-le, get_or-take, get_or-drop, get_or-map}
use Rattle.num_modular.specs.NumberLaws.{mod_add_cancel, sum_below-same}
use Rattle.num_modular.specs.Sums.{polynomial_highest_first}
use Rattle.mersenne_hash.proofs.Concatenations.{Horner, polynomial_joined}

-- the number of an entry that was read
pub residue_of_entry : {T : Type 0} (number : T → ℕ) (xs : List T) (i : ℕ) (x : T) → i < length xs → x ≡ get_or xs i x
    → number x ≡ get_or (map number xs) i 0
residue_of_entry number xs i x l e = ap number e ∙ sym (get_or-map number xs i x 0 l)

-- the polynomial of a part has the coefficients from there on
part_polynomial : (from to : ℕ) (text : List ℕ) (x : ℕ) → from ≤ to → to ≤ length text
    → polynomial_highest_first (length (slice_range text from to)) (slice_index (slice_range text from to)) x
    ≡ polynomial_highest_first (to - from) (λ i. get_or text (from + i) 0) x
part_polynomial from to text x ordered within =
    search (arith, length-take-le, length-drop, sum_below-same, get_or-take, get_or-drop)

-- what the hash of the longer beginning leaves, less that of the shorter one times a power
pub part_is : Horner → (p from to : ℕ) (text : List ℕ) (x whole start power product value : ℕ)
    → from ≤ to → to ≤ length text
    → whole ≡ polynomial_highest_first to (slice_index text) x % p
    → start ≡ polynomial_highest_first from (slice_index text) x % p → power ≡ x ^ (to - from) % p
    → product ≡ (start * power) % p → (value + product) % p ≡ whole % p → value < p
    → value
    ≡ polynomial_highest_first (length (slice_range text from to)) (slice_index (slice_range text from to)) x % p
part_is horner p from to text x whole start power product value ordered within whole_is start_is power_is product_is sum
    below =
    let k : ℕ = to - from in
    let c : ℕ → ℕ = λ i. get_or text i 0 in
    let a : ℕ = polynomial_highest_first from c x in
    let b : ℕ = polynomial_highest_first k (λ i. c (from + i)) x in
    let split : polynomial_highest_first to c x ≡ a * x ^ k + b =
    ap (λ n. polynomial_highest_first n c x) (let e : to ≡ from + k = omega (arith, ordered) in e)
    ∙ polynomial_joined horner _ _ _ _ in
    let product_of : product ≡ (a * x ^ k) % p =
    product_is ∙ ap₂ (λ s t. (s * t) % p) start_is power_is ∙ sym (mul-mod a (x ^ k) p) in
    let same : (value + a * x ^ k) % p ≡ (b + a * x ^ k) % p =
    grind (arith, add-mod-mod value (a * x ^ k) p, mod-mod) in
    sym (mod-eq_of_lt below) ∙ (mod_add_cancel (a * x ^ k) (record { same = same })).same
    ∙ ap (λ v. v % p) (sym (part_polynomial _ _ _ _ ordered within))
