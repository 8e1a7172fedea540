-- A convolution by three transforms: each entry at the end, and the inverse of the length.
use Rattle.std.proofs.Common.{◌≡◌, ℕ, suc, zero, ◌+◌, ◌*◌, ◌%◌, ◌^◌, ◌<◌, List}
use Rattle.std.proofs.Common.{length, get_or, sym, ◌∙◌, ap, refl, arith, subst, inl, inr}
use Rattle.std.proofs.lemmas.Nat.{mod_below}
use Rattle.std.proofs.lemmas.Bool.{cases_eq}
use Rattle.std.proofs.Math.Nat.{two-pow-succ, mod-eq_of_lt}
use Rattle.std.specs.Int.{IsPowerOfTwo, trailing_zeros, w64}
use Rattle.modular_transform.proofs.PowersOfTwo.{power_by_zeros}
use Rattle.modular_word.specs.Inverses.{IsInverse}
use Rattle.modular_reduced.specs.Forms.{Represents, IsCanonical}
use Rattle.modular_transform.specs.Transforms.{transform, cyclic_product, Suits}
use Rattle.modular_word.specs.Congruence.{Congruent}
use Rattle.modular_transform.specs.Orders.{IsReordered, mirrored}
use Rattle.modular_reduced.specs.Values.{HoldValues}
use Rattle.modular_word.proofs.Congruence.{mod_of_eq, mod_refl, mod_sym, mod_trans, mod_mul, residue_of}
use Rattle.modular_reduced.specs.Entries.{entry}
use Rattle.modular_reduced.specs.EntryLaws.{entry_at}
use Rattle.modular_transform.proofs.CyclicProducts.{HalfTurn, Mirrored, transform_of_products}
use Rattle.modular_transform.proofs.Reordering.{mirrored_first, mirrored_other}
use Rattle.modular_reduced.proofs.ListSteps.{held_values}

-- a root that suits, for the convolution theorem
half_turn_at : {m g n : ℕ} (z : ℕ) → n ≡ 2 ^ z → Suits m g n → HalfTurn m g n
half_turn_at zero whole suits = let k : 2 ^ 0 ≡ 1 = refl in record { known = λ l. absurd (omega (arith, k)) }
half_turn_at {m} {g} {n} (suc y) whole suits = grind arith

pub half_turn : {m g n : ℕ} → Suits m g n → HalfTurn m g n
half_turn suits = half_turn_at suits.power_of_two.0 suits.power_of_two.1 suits

pub mirrored_index_is_mirror : (n e : ℕ) → e < n → Mirrored n e (mirrored n e)
mirrored_index_is_mirror n e l = elim (cases_eq e 0) [
  | inl z ↦
      grind (arith, mirrored_first n)
  | inr s ↦
      grind (arith, mirrored_other n e (omega arith) l)
]

-- what is n times v, times 1/n
pub by_part : {m n part u : ℕ} (v : ℕ) → IsInverse m n part → Congruent m u (n * v) → Congruent m (u * part) v
by_part {m} {n} {part} v inverse is =
    grind (arith, mod_mul is (mod_refl part), mod_mul (record { same = inverse.one }) (mod_refl v))

-- entry e of the cyclic product, from the transform of the product
-- of the transforms, mirrored and multiplied by the inverse of n
pub convolved_entry : {m : ℕ} (g n e part : ℕ) (x y c : ℕ → ℕ) → 0 < m → Suits m g n → e < n → IsInverse m n part
    → ((j : ℕ) → j < n → c j ≡ (transform m g n x j * transform m g n y j) % m)
    → (transform m g n c (mirrored n e) * part) % m ≡ cyclic_product m n x y e
convolved_entry {m} g n e part x y c positive suits l inverse is =
    let whole : Congruent m (transform m g n c (mirrored n e)) (n * cyclic_product m n x y e) =
    mod_trans (residue_of _) (mod_trans (transform_of_products _ _ _ _ _ _ _ (half_turn suits)
    (mirrored_index_is_mirror n e l)
    (λ j k. mod_trans (mod_of_eq (is j k)) (mod_trans (residue_of _) (mod_mul (residue_of _) (residue_of _)))))
    (mod_mul (mod_refl _) (mod_sym (residue_of _)))) in
    (by_part (cyclic_product m n x y e) inverse whole).same ∙ mod-eq_of_lt (mod_below _ _ positive)

-- a doubling of 1 more
pub doubled_more : {m : ℕ} (v w t : ℕ) → Congruent m v (2 ^ t) → w ≡ (2 * v) % m → Congruent m w (2 ^ (t + 1))
doubled_more v w t is e =
    let d : 2 * 2 ^ t ≡ 2 ^ (t + 1) = grind (arith, two-pow-succ t) in
    mod_trans (mod_of_eq e) (mod_trans (residue_of (2 * v)) (mod_trans (mod_mul (mod_refl 2) is) (mod_of_eq d)))

-- congruent numbers have the same inverses
pub inverse_along : {m a b x : ℕ} → Congruent m a b → IsInverse m a x → IsInverse m b x
inverse_along {m} {a} {b} {x} same h =
    record { below = h.below; one = (mod_mul (mod_sym same) (mod_refl x)).same ∙ h.one }

-- the value at a place of a reordered list
pub reordered_value : {T : Type 0} (number : T → ℕ) (value : ℕ → ℕ → ℕ) (m i : ℕ) (d : T) (s : ℕ → ℕ) (old new : List T)
    → IsReordered s old new → i < length old → i < length new → s i < length old
    → entry number value m new i ≡ entry number value m old (s i)
reordered_value number value m i d s old new reordered l l_new l_s =
    sym (entry_at number value m new i d l_new) ∙ ap (λ f. value m (number f)) (reordered.each i d l)
    ∙ entry_at number value m old (s i) d l_s

-- the lists on the way from xs and ys to their cyclic product
pub convolution_end : {T : Type 0} (number : T → ℕ) (form value : ℕ → ℕ → ℕ) (width m g n part : ℕ)
    (xs ys xs1 ys1 xs2 xs3 : List T)
    → IsCanonical form value width m → Suits m g n → IsInverse m n part
    → length xs ≡ n → length ys ≡ n → length xs1 ≡ n → length ys1 ≡ n → length xs2 ≡ n → length xs3 ≡ n
    → HoldValues number form m xs1 (transform m g (length xs) (entry number value m xs))
    → HoldValues number form m ys1 (transform m g (length ys) (entry number value m ys))
    → HoldValues number form m xs2 (λ i. (entry number value m xs1 i * entry number value m ys1 i) % m)
    → HoldValues number form m xs3
    (λ i. (transform m g (length xs2) (entry number value m xs2) (mirrored (length xs2) i) * part) % m)
    → HoldValues number form m xs3 (cyclic_product m n (entry number value m xs) (entry number value m ys))
convolution_end number form value width m g n part xs ys xs1 ys1 xs2 xs3 canonical suits inverse l l_ys l1 l_ys1
    l2 l3 is1 is_ys1 is2 is3 =
    record {
      each = λ i d in_range.
          let x = entry number value m xs in
          let y = entry number value m ys in
          let c = entry number value m xs2 in
          let product : (j : ℕ) → j < n → c j ≡ (transform m g n x j * transform m g n y j) % m = λ j h.
          let x1 =
          held_values _ _ _ j canonical is1 (omega arith) ∙ ap (λ v. transform m g v x j) l in
          let y1 = held_values _ _ _ j canonical is_ys1 (omega arith) ∙ ap (λ v. transform m g v y j) l_ys in
          held_values _ _ _ j canonical is2 (omega arith) ∙ ap (λ v. (v * entry number value m ys1 j) % m) x1
          ∙ ap (λ v. (transform m g n x j * v) % m) y1 in
          let whole = ap (λ v. (transform m g v c (mirrored v i) * part) % m) l2
          ∙ convolved_entry _ _ _ _ _ _ _ canonical.positive suits (omega arith) inverse product in
          subst (λ v. Represents form m (number (get_or xs3 i d)) v) whole (is3.each i d in_range);
    }

-- the doublings of 1 come to the length
pub doubled_all : {m n : ℕ} (v t : ℕ) → Congruent m v (2 ^ t) → t ≡ trailing_zeros w64 n → IsPowerOfTwo n
    → n < 2 ^ 64 → Congruent m v n
doubled_all {m} {n} v t is e power below =
    mod_trans is (mod_of_eq (ap (λ k. 2 ^ k) e ∙ sym (power_by_zeros n power below)))
