-- The ring laws of forms: both sides of a law, computed step by step, are the same form.
use Rattle.std.proofs.Common.{◌≡◌, ℕ, zero, suc, ◌+◌, ◌-◌, ◌*◌, ◌%◌, ◌<◌, pos, neg_ℤ, sym, ◌∙◌, ap, refl, arith}
use Rattle.std.proofs.Math.Nat.{mod-mod, mod_self, mod-eq_of_lt, mul_assoc}
use Rattle.modular_word.specs.Residues.{residue}
use Rattle.modular_word.proofs.Congruence.{same_sum, same_product}
use Rattle.modular_word.proofs.ResidueLemmas.{residue_neg}
use Rattle.modular_reduced.specs.Forms.{Represents, IsCanonical}

-- a value has one form
pub same_form : {form : ℕ → ℕ → ℕ} {m f g v w : ℕ} → Represents form m f v → Represents form m g w → v ≡ w → f ≡ g
same_form {form} {m} h k e = h.same ∙ ap (form m) e ∙ sym k.same

pub sums_associate : {form value : ℕ → ℕ → ℕ} {width m xy left yz right : ℕ} (x y z : ℕ)
    → IsCanonical form value width m
    → Represents form m xy ((x + y) % m) → Represents form m left ((value m xy + z) % m)
    → Represents form m yz ((y + z) % m) → Represents form m right ((x + value m yz) % m) → left ≡ right
sums_associate {form} {value} {width} {m} {xy} {left} {yz} {right} x y z canonical hxy hl hyz hr =
    let exy = canonical.one_value xy ((x + y) % m) hxy in
    let eyz = canonical.one_value yz ((y + z) % m) hyz in
    let regrouped : x + y + z ≡ x + (y + z) = omega arith in
    same_form hl hr
    (ap (λ v. (v + z) % m) exy ∙ same_sum m ((x + y) % m) (x + y) z z (mod-mod (x + y) m) refl
    ∙ ap (λ v. v % m) regrouped
    ∙ sym (same_sum m x x ((y + z) % m) (y + z) refl (mod-mod (y + z) m)) ∙ sym (ap (λ v. (x + v) % m) eyz))

pub products_associate : {form value : ℕ → ℕ → ℕ} {width m xy left yz right : ℕ} (x y z : ℕ)
    → IsCanonical form value width m
    → Represents form m xy ((x * y) % m) → Represents form m left ((value m xy * z) % m)
    → Represents form m yz ((y * z) % m) → Represents form m right ((x * value m yz) % m) → left ≡ right
products_associate {form} {value} {width} {m} {xy} {left} {yz} {right} x y z canonical hxy hl hyz hr =
    let exy = canonical.one_value xy ((x * y) % m) hxy in
    let eyz = canonical.one_value yz ((y * z) % m) hyz in
    same_form hl hr
    (ap (λ v. (v * z) % m) exy ∙ same_product m ((x * y) % m) (x * y) z z (mod-mod (x * y) m) refl
    ∙ ap (λ v. v % m) (mul_assoc x y z)
    ∙ sym (same_product m x x ((y * z) % m) (y * z) refl (mod-mod (y * z) m)) ∙ sym (ap (λ v. (x * v) % m) eyz))

pub products_distribute : {form value : ℕ → ℕ → ℕ} {width m yz left xy xz right : ℕ} (x y z : ℕ)
    → IsCanonical form value width m
    → Represents form m yz ((y + z) % m) → Represents form m left ((x * value m yz) % m)
    → Represents form m xy ((x * y) % m) → Represents form m xz ((x * z) % m)
    → Represents form m right ((value m xy + value m xz) % m) → left ≡ right
products_distribute {form} {value} {width} {m} {yz} {left} {xy} {xz} {right} x y z canonical hyz hl hxy hxz hr =
    let eyz = canonical.one_value yz ((y + z) % m) hyz in
    let exy = canonical.one_value xy ((x * y) % m) hxy in
    let exz = canonical.one_value xz ((x * z) % m) hxz in
    let spread : x * (y + z) ≡ x * y + x * z = omega arith in
    same_form hl hr
    (ap (λ v. (x * v) % m) eyz ∙ same_product m x x ((y + z) % m) (y + z) refl (mod-mod (y + z) m)
    ∙ ap (λ v. v % m) spread
    ∙ sym (same_sum m (x * y % m) (x * y) (x * z % m) (x * z) (mod-mod (x * y) m) (mod-mod (x * z) m))
    ∙ sym (ap (λ v. (v + value m xz) % m) exy ∙ ap (λ v. (x * y % m + v) % m) exz))

residue_of_negation_cancels : (m v : ℕ) → v < m → (v + residue m (neg_ℤ (pos v))) % m ≡ 0
residue_of_negation_cancels m zero h = let e : 0 % m ≡ 0 = mod-eq_of_lt h in ap (λ n. (0 + n) % m) e ∙ e
residue_of_negation_cancels m (suc v) h =
    let e : residue m (neg_ℤ (pos (suc v))) ≡ m - suc v = residue_neg m (suc v) h (omega arith) in
    let whole : suc v + (m - suc v) ≡ m = omega arith in
    ap (λ n. (suc v + n) % m) e ∙ ap (λ n. n % m) whole ∙ mod_self m

pub negative_cancels : {form value : ℕ → ℕ → ℕ} {width m negative sum : ℕ} (v : ℕ)
    → IsCanonical form value width m → v < m
    → Represents form m negative (residue m (neg_ℤ (pos v))) → Represents form m sum ((v + value m negative) % m)
    → Represents form m sum 0
negative_cancels {form} {value} {width} {m} {negative} {sum} v canonical h hn hs =
    grind (arith, neg_ℤ, residue_of_negation_cancels)
