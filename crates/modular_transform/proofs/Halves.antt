-- The transform of 2 h values as two transforms of h values: entries at even and at odd places.
use Rattle.std.proofs.Common.{◌≡◌, ℕ, ◌+◌, ◌*◌, ◌^◌, ◌<◌, sym, ◌∙◌, ap, arith}
use Rattle.std.proofs.lemmas.Nat.{pow-add}
use Rattle.modular_word.specs.Sums.{sum_below}
use Rattle.modular_word.specs.Congruence.{Congruent}
use Rattle.modular_word.proofs.Congruence.{mod_of_eq, mod_refl, mod_sym, mod_trans, mod_add, mod_mul, mod_add_cancel}
use Rattle.modular_word.proofs.Powers.{pow-mul}
use Rattle.modular_transform.proofs.MinusOne.{IsMinusOne, pow_of_square}
use Rattle.modular_transform.proofs.MinusOne.{even_power_of_minus_one, odd_power_of_minus_one}
use Rattle.modular_word.proofs.Sums.{sum_below-joined, sum_below-add, sum_below-congruent}

-- the sum over 2 h values, by pairs of values h apart
sum_by_pairs : (h w k : ℕ) (x : ℕ → ℕ)
    → sum_below (h + h) (λ i. x i * w ^ (i * k)) ≡ sum_below h (λ i. x i * w ^ (i * k) + x (h + i) * w ^ ((h + i) * k))
sum_by_pairs h w k x =
    sum_below-joined h h (λ i. x i * w ^ (i * k))
    ∙ sym (sum_below-add h (λ i. x i * w ^ (i * k)) (λ i. x (h + i) * w ^ ((h + i) * k)))

-- a power at a place h further
power_further : (h w k i : ℕ) → w ^ ((h + i) * k) ≡ (w ^ h) ^ k * w ^ (i * k)
power_further h w k i = grind (arith, pow-add w (h * k) (i * k), pow-mul w h k)

square_root : (w i r : ℕ) → (w * w) ^ (i * r) ≡ w ^ (i * (2 * r))
square_root w i r = let e : 2 * (i * r) ≡ i * (2 * r) = omega arith in pow_of_square w (i * r) ∙ ap (λ n. w ^ n) e

even_pair : {m : ℕ} (w h r i x y u : ℕ) → IsMinusOne m (w ^ h) → Congruent m u (x + y)
    → Congruent m (x * w ^ (i * (2 * r)) + y * w ^ ((h + i) * (2 * r))) (u * (w * w) ^ (i * r))
even_pair {m} w h r i x y u half_turn is =
    let q = w ^ (i * (2 * r)) in
    let one : Congruent m (w ^ ((h + i) * (2 * r))) q = mod_trans (mod_of_eq (power_further h w (2 * r) i))
    (mod_trans (mod_mul (even_power_of_minus_one r half_turn) (mod_refl q)) (mod_of_eq (omega arith))) in
    mod_trans (mod_add (mod_refl (x * q)) (mod_mul (mod_refl y) one))
    (mod_trans (mod_of_eq (omega arith)) (mod_mul (mod_sym is) (mod_of_eq (sym (square_root w i r)))))

-- the entries at even places
pub even_entries : {m : ℕ} (w h r : ℕ) (x u : ℕ → ℕ) → IsMinusOne m (w ^ h)
    → ((i : ℕ) → i < h → Congruent m (u i) (x i + x (h + i)))
    → Congruent m (sum_below (h + h) (λ i. x i * w ^ (i * (2 * r)))) (sum_below h (λ i. u i * (w * w) ^ (i * r)))
even_entries {m} w h r x u half_turn is =
    mod_trans (mod_of_eq (sum_by_pairs _ _ _ _))
    (sum_below-congruent _ _ _ (λ i l. even_pair _ _ _ _ _ _ _ half_turn (is i l)))

odd_pair : {m : ℕ} (w h r i x y v : ℕ) → IsMinusOne m (w ^ h) → Congruent m (v + y * w ^ i) (x * w ^ i)
    → Congruent m (x * w ^ (i * (2 * r + 1)) + y * w ^ ((h + i) * (2 * r + 1))) (v * (w * w) ^ (i * r))
odd_pair {m} w h r i x y v half_turn is =
    let s = (w * w) ^ (i * r) in
    let q = w ^ (i * (2 * r + 1)) in
    let p = (w ^ h) ^ (2 * r + 1) in
    let qs : q ≡ w ^ i * s =
    ap (λ n. w ^ n) (omega arith) ∙ pow-add w i (i * (2 * r)) ∙ ap (λ n. w ^ i * n) (sym (square_root _ _ _)) in
    let z : w ^ ((h + i) * (2 * r + 1)) ≡ p * q = power_further _ _ _ _ in
    let xq = ap (λ n. x * n) qs in
    -- with y * q on both sides
    let left : x * q + y * w ^ ((h + i) * (2 * r + 1)) + y * q ≡ x * q + y * q * (p + 1) =
    omega (arith, ap (λ n. y * n) z) in
    let right : (v + y * w ^ i) * s ≡ v * s + y * q = omega (arith, ap (λ n. y * n) qs) in
    mod_add_cancel _ (mod_trans (mod_of_eq left)
    (mod_trans (mod_add (mod_refl _) (mod_mul (mod_refl _) (odd_power_of_minus_one _ half_turn).and_one))
    (mod_trans (mod_of_eq (omega (arith, xq))) (mod_trans (mod_mul (mod_sym is) (mod_refl _)) (mod_of_eq right)))))

-- the entries at odd places
pub odd_entries : {m : ℕ} (w h r : ℕ) (x v : ℕ → ℕ) → IsMinusOne m (w ^ h)
    → ((i : ℕ) → i < h → Congruent m (v i + x (h + i) * w ^ i) (x i * w ^ i))
    → Congruent m (sum_below (h + h) (λ i. x i * w ^ (i * (2 * r + 1)))) (sum_below h (λ i. v i * (w * w) ^ (i * r)))
odd_entries {m} w h r x v half_turn is =
    mod_trans (mod_of_eq (sum_by_pairs _ _ _ _))
    (sum_below-congruent _ _ _ (λ i l. odd_pair _ _ _ _ _ _ _ half_turn (is i l)))
