-- The transform back: that by the root itself, with all entries but the first in the opposite order, divided by n.
use Rattle.std.proofs.Common.{◌≡◌, ℕ, ◌*◌, ◌%◌, ◌^◌, ◌<◌, List, length, get_or, sym, ap, ◌∙◌, arith, subst, refl}
use Rattle.std.proofs.Math.Nat.{mod-mod}
use Rattle.modular_word.specs.Congruence.{Congruent}
use Rattle.modular_word.specs.Inverses.{IsInverse}
use Rattle.modular_word.specs.Sums.{sum_below}
use Rattle.modular_word.proofs.Congruence.{mod_of_eq, mod_trans, mod_sym, mod_mul, residue_of, mod_refl}
use Rattle.modular_word.proofs.Sums.{sum_below-same, sum_below-mul}
use Rattle.modular_reduced.specs.Entries.{entry}
use Rattle.modular_reduced.specs.Forms.{Represents, IsCanonical}
use Rattle.modular_reduced.specs.Values.{HoldValues}
use Rattle.modular_reduced.proofs.ListSteps.{held_values}
use Rattle.modular_transform.specs.Orders.{IsReordered, mirrored}
use Rattle.modular_transform.specs.Transforms.{Suits, transform}
use Rattle.modular_transform.proofs.ConvolveLemmas.{by_part, reordered_value}
use Rattle.modular_transform.proofs.InverseTransform.{transform_congruent, transformed_twice}
use Rattle.modular_transform.proofs.Reordering.{mirror_exchange}

-- a transform of scaled values
transform_scaled : (m g n part j : ℕ) (u : ℕ → ℕ)
    → Congruent m (transform m g n (λ i. part * u i) j) (part * transform m g n u j)
transform_scaled m g n part j u =
    mod_trans (residue_of _) (mod_trans (mod_of_eq ((sum_below-same _ _ _ (λ i _. omega arith))
    ∙ sum_below-mul _ _ _)) (mod_mul (mod_refl _) (mod_sym (residue_of (sum_below n (λ i. u i * g ^ (i * j)))))))

-- the transform back of a transform
pub undone_at : (m g n part i : ℕ) (x old : ℕ → ℕ) → Suits m g n → IsInverse m n part → i < n
    → ((j : ℕ) → j < n → transform m g n x j ≡ old j)
    → (transform m g n old (mirrored n i) * part) % m ≡ x i % m
undone_at m g n part i x old suits inverse l is =
    (by_part (x i) inverse (mod_trans
    (mod_of_eq (transform_congruent g n (mirrored n i) old (transform m g n x) (λ j t. mod_of_eq (sym (is j t)))))
    (mod_trans (transformed_twice g n (mirrored n i) x suits ((mirror_exchange n).within i l))
    (mod_of_eq (ap (λ p. n * x p) ((mirror_exchange n).twice i l)))))).same

-- and the transform of a transform back
pub restored_at : (m g n part j : ℕ) (new old : ℕ → ℕ) → g < m → Suits m g n → IsInverse m n part → j < n
    → ((i : ℕ) → i < n → new i ≡ (transform m g n old (mirrored n i) * part) % m)
    → transform m g n new j ≡ old j % m
restored_at m g n part j new old _ suits inverse l is =
    let mirror = mirror_exchange n in let twice = transform m g n (transform m g n (transform m g n old)) in
    -- the values are 1/n^2 times the third transform, of which the transform is n^2 times the old values
    let values = λ (i : ℕ) (k : i < n). mod_trans (mod_of_eq (is i k))
    (mod_trans (residue_of _) (mod_trans (mod_mul (mod_sym (by_part _ inverse (transformed_twice _ _ _ _ suits k)))
    (mod_refl _)) (mod_of_eq (let e : twice i * part * part ≡ part * part * twice i = omega arith in e)))) in
    let last = by_part _ inverse (mod_trans (transformed_twice _ _ _ _ suits (mirror.within j l))
    (mod_of_eq (ap (λ p. n * old p) (mirror.twice j l)))) in
    sym (mod-mod (sum_below n (λ i. new i * g ^ (i * j))) m)
    ∙ (mod_trans (mod_of_eq (transform_congruent g n j new (λ i. part * part * twice i) values))
    (mod_trans (transform_scaled m g n (part * part) j twice) (mod_trans (mod_of_eq (let t = transform m g n twice j in
    let e : part * part * t ≡ t * part * part = omega arith in e))
    (mod_trans (mod_mul (by_part _ inverse (transformed_twice _ _ _ _ suits l)) (mod_refl part)) last)))).same

-- a list whose transform is given
pub transform_preimage : ℕ → ℕ → ℕ → ℕ → (ℕ → ℕ) → ℕ → ℕ
transform_preimage m g n part y i = (transform m g n y (mirrored n i) * part) % m

pub transform_of_preimage : (m g n part j : ℕ) (y : ℕ → ℕ) → g < m → 1 < n → Suits m g n → IsInverse m n part → j < n
    → transform m g n (transform_preimage m g n part y) j ≡ y j % m
unfolding transform_preimage
transform_of_preimage m g n part j y below _ suits inverse l = restored_at m g n part j
    (transform_preimage m g n part y) y below suits inverse l (λ i k. refl)

-- the three steps of the transform back
pub stepped_back : {T : Type 0} (number : T → ℕ) (form value : ℕ → ℕ → ℕ) (width m g part : ℕ) (xs xs1 xs2 xs3 : List T)
    → IsCanonical form value width m
    → length xs1 ≡ length xs → length xs2 ≡ length xs → length xs3 ≡ length xs
    → HoldValues number form m xs1 (transform m g (length xs) (entry number value m xs))
    → IsReordered (mirrored (length xs1)) xs1 xs2
    → HoldValues number form m xs3 (λ i. (entry number value m xs2 i * part) % m)
    → HoldValues number form m xs3
    (λ i. (transform m g (length xs) (entry number value m xs) (mirrored (length xs) i) * part) % m)
stepped_back number form value width m g part xs xs1 xs2 xs3 canonical l1 l2 l3 is1 is2 is3 = record {
  each = λ i d in_range.
      let n = length xs in
      let k = mirrored n i in
      let e : mirrored (length xs1) i ≡ k = ap (λ v. mirrored v i) l1 in
      let v2 : entry number value m xs2 i ≡ transform m g n (entry number value m xs) k =
      reordered_value number value m i d _ _ _ is2 (omega (arith, in_range, l1, l3))
      (omega (arith, in_range, l2, l3)) (omega (arith, e, l1)) ∙ ap (entry number value m xs1) e
      ∙ held_values _ _ _ k canonical is1 (omega (arith, l1)) in
      subst (λ v. Represents form m (number (get_or xs3 i d)) v) (ap (λ v. (v * part) % m) v2)
      (is3.each i d in_range);
}
