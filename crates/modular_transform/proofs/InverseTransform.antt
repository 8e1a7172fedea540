-- The transform by the inverse of a root takes the transform back to n times the values.
use Rattle.std.proofs.Common.{◌≡◌, ℕ, suc, zero, ◌+◌, ◌*◌, ◌%◌, ◌/◌, eqb, cond, ◌||◌}
use Rattle.std.proofs.Common.{◌^◌, ◌<◌, sym, ◌∙◌, ap, refl, arith, inl, inr}
use Rattle.std.proofs.lemmas.Bool.{cases_eq}
use Rattle.std.proofs.lemmas.Bool.Decides.{eqb_tells}
use Rattle.std.proofs.lemmas.Nat.{pow-add, mul-pow, pow_pos}
use Rattle.std.proofs.Math.Nat.{two-pow-succ, zero-mod, pow-zero}
use Rattle.std.specs.Int.{IsPowerOfTwo}
use Rattle.modular_word.specs.Congruence.{Congruent}
use Rattle.modular_word.specs.Inverses.{IsInverse}
use Rattle.modular_word.specs.Sums.{sum_below}
use Rattle.modular_word.proofs.Congruence.{mod_of_eq, mod_refl, mod_sym, mod_trans, mod_add, mod_mul, mod_pow}
use Rattle.modular_word.proofs.Congruence.{residue_of}
use Rattle.modular_word.proofs.Powers.{one-pow, pow-mul}
use Rattle.modular_word.proofs.Sums.{sum_below-same, sum_below-congruent}
use Rattle.modular_transform.specs.Orders.{mirrored}
use Rattle.modular_transform.specs.Transforms.{Suits, transform}
use Rattle.modular_transform.proofs.CyclicProducts.{transform_of_products, full_turn}
use Rattle.modular_transform.proofs.ConvolveLemmas.{half_turn, mirrored_index_is_mirror, by_part}
use Rattle.modular_transform.proofs.PolynomialProducts.{sum_at_place}
use Rattle.modular_transform.proofs.Reordering.{mirror_exchange, mirrored_first, mirrored_other}

-- powers of a number and of its inverse cancel
inverse_powers_cancel : {m g h : ℕ} (k : ℕ) → IsInverse m g h → Congruent m (g ^ k * h ^ k) 1
inverse_powers_cancel {m} {g} {h} k inverse =
    mod_trans (mod_of_eq (sym (mul-pow g h k))) (mod_trans (mod_pow k (record { same = inverse.one }))
    (mod_of_eq (one-pow k)))

-- the inverse of a root that suits
pub inverse_suits : {m g h n : ℕ} → IsInverse m g h → Suits m g n → Suits m h n
inverse_suits {m} {g} {h} {n} inverse suits = record {
  power_of_two = suits.power_of_two;
  half_turn = λ l.
      let k = n / 2 in
      let turn : Congruent m (g ^ k + 1) 0 = record { same = suits.half_turn l ∙ sym (zero-mod m) } in
      let sum : Congruent m (h ^ k + 1) 0 =
      grind (
        arith,
        mod_add (mod_sym (inverse_powers_cancel k inverse)) (mod_refl (h ^ k)),
        mod_mul turn
            (mod_refl (h ^ k)),
      ) in
      sum.same ∙ zero-mod m;
}

-- congruent values have one transform
pub transform_congruent : {m : ℕ} (g n j : ℕ) (x y : ℕ → ℕ) → ((i : ℕ) → i < n → Congruent m (x i) (y i))
    → transform m g n x j ≡ transform m g n y j
transform_congruent {m} g n j x y same = grind (arith, sum_below-congruent, mod_mul, mod_refl)

-- the values 1, 0, 0, ..
abbrev unit : ℕ → ℕ
unit b = cond (eqb 0 b) 1 0

times_unit : (b v : ℕ) → unit b * v ≡ cond (eqb 0 b) v 0
times_unit b v = elim (eqb_tells 0 b) [ inl p ↦ rw p.0 (omega arith) | inr p ↦ rw p.0 (omega arith) ]

-- the transform of them
unit_transformed : (g n j : ℕ) → 0 < n → sum_below n (λ b. unit b * g ^ (b * j)) ≡ 1
unit_transformed g n j some =
    sum_below-same n (λ b. unit b * g ^ (b * j)) (λ b. cond (eqb 0 b) (g ^ (b * j)) 0)
    (λ b _. times_unit b (g ^ (b * j))) ∙ sum_at_place n 0 (λ b. g ^ (b * j)) some ∙ ap (λ v. g ^ v) (omega arith)
    ∙ pow-zero g

-- one term of the cyclic product by them
term_by_unit : (n e a b v : ℕ) → e < n → a < n → cond (eqb (a + b) e || eqb (a + b) (e + n)) (v * unit b) 0
    ≡ cond (eqb 0 b) (cond (eqb e a) v 0) 0
term_by_unit n e a b v le la = grind arith

product_by_unit : (n e : ℕ) (x : ℕ → ℕ) → e < n
    → sum_below n (λ a. sum_below n (λ b. cond (eqb (a + b) e || eqb (a + b) (e + n)) (x a * unit b) 0)) ≡ x e
product_by_unit n e x l =
    sum_below-same _ _ _ (λ a la. sum_below-same _ _ _ (λ b _. term_by_unit n e a b (x a) l la)
    ∙ sum_at_place _ 0 _ (omega (arith, l))) ∙ sum_at_place n e x l

-- the transform of the transform is n times the values, all but the first in the opposite order
pub transformed_twice : {m : ℕ} (g n k : ℕ) (x : ℕ → ℕ) → Suits m g n → k < n
    → Congruent m (transform m g n (transform m g n x) k) (n * x (mirrored n k))
transformed_twice {m} g n k x suits l =
    let place = mirrored_index_is_mirror n k l in mod_trans (residue_of _)
    (mod_trans (transform_of_products _ _ _ _ _ _ _ (half_turn suits) (grind (arith, place.image))
    (λ j _. mod_trans (residue_of _) (mod_of_eq (let s = sum_below n (λ i. x i * g ^ (i * j)) in
    (omega arith) ∙ ap (λ v. s * v) (sym (unit_transformed g n j (omega (arith, l))))))))
    (mod_of_eq (ap (λ v. n * v) (product_by_unit _ _ _ place.image))))

-- the powers of the inverse of a root are those of the root at the mirrored places
power_of_inverse : {m g h n : ℕ} (i : ℕ) → IsInverse m g h → Suits m g n → i < n
    → Congruent m (h ^ i) (g ^ mirrored n i)
power_of_inverse {m} {g} {h} {n} i inverse suits l = elim (cases_eq i 0) [
  | inl z ↦
      grind (arith, pow-zero h, mirrored_first n, pow-zero g)
  | inr s ↦
      grind (
        arith,
        mod_mul (mod_sym (full_turn g n (half_turn suits) (omega arith))) (mod_refl (h ^ i)),
        mirrored_other n i (omega arith) l,
        pow-add g (mirrored n i) i,
        mod_mul (mod_refl (g ^ (mirrored n i))) (inverse_powers_cancel i inverse),
      )
]

-- so that the transform by the inverse is that by the root at the mirrored places
at_mirror : {m g h : ℕ} (n k : ℕ) (c : ℕ → ℕ) → IsInverse m g h → Suits m g n → k < n
    → transform m h n c k ≡ transform m g n c (mirrored n k)
at_mirror {m} {g} {h} n k c inverse suits l =
    let e = mirrored n k in
    (sum_below-congruent n (λ j. c j * h ^ (j * k)) (λ j. c j * g ^ (j * e)) (λ j _.
    let turn : j * k ≡ k * j = omega arith in let back : e * j ≡ j * e = omega arith in
    mod_mul (mod_refl (c j)) (mod_trans (mod_of_eq (ap (λ v. h ^ v) turn ∙ pow-mul h k j))
    (mod_trans (mod_pow j (power_of_inverse k inverse suits l))
    (mod_of_eq (sym (pow-mul g e j) ∙ ap (λ v. g ^ v) back)))))).same

-- entry k of the transform back is n times value k
pub transformed_back : {m g h : ℕ} (n k : ℕ) (x : ℕ → ℕ) → IsInverse m g h → Suits m g n → k < n
    → Congruent m (transform m h n (transform m g n x) k) (n * x k)
transformed_back {m} {g} {h} n k x inverse suits l =
    mod_trans (mod_of_eq (at_mirror _ _ _ inverse suits l))
    (mod_trans (transformed_twice _ _ _ _ suits ((mirror_exchange n).within k l))
    (mod_of_eq (ap (λ p. n * x p) ((mirror_exchange n).twice k l))))

-- .. and times 1/n the value itself
pub transform_back_gives_value : {m g h : ℕ} (n k part : ℕ) (x : ℕ → ℕ) → IsInverse m g h → IsInverse m n part
    → Suits m g n → k < n
    → Congruent m (transform m h n (transform m g n x) k * part) (x k)
transform_back_gives_value n k part x inverse of_length suits l =
    by_part (x k) of_length (transformed_back n k x inverse suits l)

-- a power of two is 1 or even
even_length : (z n : ℕ) → n ≡ 2 ^ z → 1 < n → n ≡ 2 * (n / 2)
even_length zero n whole l = let k : 2 ^ 0 ≡ 1 = refl in absurd (omega (arith, k))
even_length (suc z) n whole l = let d = two-pow-succ z in omega (arith, d)

-- a power of a root that suits more values
pub power_suits : {m g : ℕ} (k n : ℕ) → IsPowerOfTwo n → Suits m g (n * k) → Suits m (g ^ k % m) n
power_suits {m} {g} k n power suits = record {
  power_of_two = power;
  half_turn = λ l.
      let w : n * k ≡ 2 * (k * (n / 2)) = ap (λ v. v * k) (even_length power.0 n power.1 l) ∙ omega arith in
      let more : 1 < n * k = omega (arith, w, pow_pos suits.power_of_two.0, suits.power_of_two.1) in
      let turn : Congruent m (g ^ (n * k / 2) + 1) 0 = record { same = suits.half_turn more ∙ sym (zero-mod m) } in
      let same : Congruent m ((g ^ k % m) ^ (n / 2)) (g ^ (n * k / 2)) =
      mod_trans (mod_pow (n / 2) (residue_of (g ^ k)))
      (mod_of_eq (sym (ap (λ v. g ^ v) (omega (arith, w)) ∙ pow-mul g k (n / 2)))) in
      (mod_trans (mod_add same (mod_refl 1)) turn).same ∙ zero-mod m;
}
