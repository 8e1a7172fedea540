-- The values of a window that moves.
use Rattle.std.proofs.Common.{◌≡◌, ℕ, zero, suc, pos, neg_ℤ, ◌+◌, ◌-◌, ◌*◌, ◌%◌, ◌^◌, ◌<◌, ◌≤◌, ◌/◌, List, [], ◌∷◌}
use Rattle.std.proofs.Common.{◌++◌, length, take, drop}
use Rattle.std.proofs.Common.{get_or, slice_index, slice_range, arith, ap, sym, ◌∙◌, refl, length-append, length-drop}
use Rattle.std.proofs.Common.{add-one}
use Rattle.std.proofs.lemmas.List.{take_more, get_or-drop, length-take-le}
use Rattle.std.proofs.lemmas.Nat.{mul-mod_first}
use Rattle.std.proofs.Math.Nat.{add-mod, add-mod-mod, mod-add-mod, mod-lt, mod-eq_of_lt}
use Rattle.std.proofs.Math.Seq.{drop-cons}
use Rattle.modular_word.specs.Residues.{residue}
use Rattle.modular_word.specs.Sums.{polynomial_highest_first}
use Rattle.modular_word.proofs.Polynomials.{value_first, polynomial_residue_of_appended}
use Rattle.modular_word.proofs.Congruence.{mod_cancel}
use Rattle.modular_ring.specs.SystemLaws.{gathered}

-- the value of a window that moves, modulo m
pub residue_moved : (m x c d : ℕ) (old new : List ℕ) (window power value : ℕ) → old ++ d ∷ [] ≡ c ∷ new
    → window ≡ polynomial_highest_first (length old) (slice_index old) x % m → power ≡ x ^ length old % m
    → (value + (power * c) % m) % m ≡ (window * x + d) % m → value < m
    → value ≡ polynomial_highest_first (length new) (slice_index new) x % m
residue_moved m x c d old new window power value same is power_is difference below =
    let lengths = ap length same in
    let count : length old ≡ length new = omega (arith, lengths, length-append old (d ∷ [])) in
    let t = c * x ^ length new in
    let v = polynomial_highest_first (length new) (slice_index new) x in
    let whole = polynomial_residue_of_appended m old d x window _ is refl in
    let longer = mod-add-mod (window * x) m d in
    let term = ap (λ k. (k * c) % m) power_is ∙ mul-mod_first (x ^ length old) c m in
    let turned : x ^ length old * c ≡ t = ap (λ k. x ^ k * c) count ∙ (let e : x ^ length new * c ≡ t = omega arith in
    e) in
    let first = ap (λ cs. polynomial_highest_first (length cs) (slice_index cs) x) same ∙ value_first new c x in
    let sum : t + v ≡ v + t = omega arith in
    mod_cancel m value (v % m) t below (mod-lt v (omega (arith, below)))
    (cc (add-mod-mod value t m, mod-add-mod v m t))

-- the window at a position and the byte after it are the byte there and the next window
pub window_moves : (n at : ℕ) (xs : List ℕ) → at + n < length xs
    → slice_range xs at (at + n) ++ get_or xs (at + n) 0 ∷ [] ≡ get_or xs at 0 ∷ slice_range xs (at + 1) (at + 1 + n)
window_moves n at xs h =
    let inside : n < length (drop at xs) = omega (arith, length-drop at xs) in
    let first : at + n - at ≡ n = omega arith in
    let second : at + 1 + n - (at + 1) ≡ n = omega arith in
    rw (first, second) (ap (λ y. take n (drop at xs) ++ y ∷ []) (sym (get_or-drop at xs n 0))
    ∙ sym (take_more (drop at xs) n 0 inside) ∙ ap (λ k. take k (drop at xs)) (add-one n)
    ∙ ap (take (suc n)) (drop-cons xs at 0 (omega arith)) ∙ ap (λ k. get_or xs at 0 ∷ take n (drop k xs))
    (sym (add-one at)))

pub window_length : (n at : ℕ) (xs : List ℕ) → at + n ≤ length xs → length (slice_range xs at (at + n)) ≡ n
window_length n at xs h = search (arith, length-take-le, length-drop)

-- a residue and the residue of its negative
residue_and_negative : (m p : ℕ) → p < m → (k : ℕ) × (residue m (neg_ℤ (pos p)) + p ≡ m * k)
residue_and_negative m zero h = (0, omega arith)
residue_and_negative m (suc n) h =
    let small : n < m = omega (arith, h) in let e = mod-eq_of_lt small in (1, omega (arith, h, e))

-- the sum that `roll` reduces: an eighth of w·8b, 8q·c and 8d, where q is the negative of p
pub difference_rolled : (m w b p q c d r : ℕ) → p < m → q ≡ residue m (neg_ℤ (pos p))
    → r ≡ (w * (8 * b) + (8 * q * c + 8 * d)) / 8 % m → (r + (p * c) % m) % m ≡ (w * b + d) % m
difference_rolled m w b p q c d r h is sum =
    let (k, e) = residue_and_negative m p h in
    let times = ap (λ n. n * c) (ap (λ n. n + p) is ∙ e) in
    let s = w * b + d + q * c in
    let eighth : (w * (8 * b) + (8 * q * c + 8 * d)) / 8 ≡ s = omega arith in
    ap (λ n. (n + (p * c) % m) % m) (sum ∙ ap (λ n. n % m) eighth) ∙ sym (add-mod s (p * c) m)
    ∙ gathered m (s + p * c) (w * b + d) 0 (k * c) (omega (arith, times))
