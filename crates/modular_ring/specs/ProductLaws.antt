-- Laws of products over a range, and of the inverses of products. Callers cite them in their lemma files and
-- answers. The names are the library's own words.
use Rattle.std.proofs.Common.{◌≡◌, ◌↔◌, ℕ, zero, suc, ◌+◌, ◌*◌, ◌%◌, ◌<◌, ap}
use Rattle.std.proofs.Common.{sym, ◌∙◌, arith, refl, inl, inr, subst, add-one}
use Rattle.std.proofs.Math.Nat.{mod-lt}
use Rattle.std.proofs.lemmas.Bool.{cases_eq}
use Rattle.std.proofs.lemmas.Nat.{mul-mod_first, mul-mod_second}
use Rattle.modular_word.specs.Inverses.{IsInverse, HasInverse}
use Rattle.modular_word.proofs.Congruence.{same_product}
use Rattle.modular_reduced.specs.EntryLaws.{entry_at, hold_more}
use Rattle.modular_ring.specs.Products.{product_below}

-- the empty product
pub product-zero : (f : ℕ → ℕ) → product_below 0 f ≡ 1
unfolding product_below
product-zero f = refl

-- the product with one more factor
pub product-more : (f : ℕ → ℕ) (n : ℕ) → product_below (n + 1) f ≡ product_below n f * f n
unfolding product_below
product-more f n = ap (λ k. product_below k f) (add-one n)

-- products of equal factors
pub product-same : (n : ℕ) (f g : ℕ → ℕ) → ((i : ℕ) → i < n → f i ≡ g i) → product_below n f ≡ product_below n g
unfolding product_below
product-same zero f g same = refl
product-same (suc n) f g same =
    ap (λ v. v * f n) (product-same n f g (λ i l. same i (omega arith)))
    ∙ ap (λ v. product_below n g * v) (same n (omega arith))

-- the product so far, as a residue: the empty one
pub product_none : (m a : ℕ) (f : ℕ → ℕ) → a ≡ 1 % m → a ≡ product_below 0 f % m
product_none m a f e = e ∙ ap (λ v. v % m) (sym (product-zero f))

-- the product so far, as a residue, with one more factor
pub product_step : (m i a b : ℕ) (f : ℕ → ℕ) → a ≡ product_below i f % m → b ≡ f i
    → (a * b) % m ≡ product_below (i + 1) f % m
product_step m i a b f p q =
    rw (p, q) (mul-mod_first (product_below i f) (f i) m) ∙ ap (λ w. w % m) (sym (product-more f i))

-- the inverse of a product gives that of the left factor
pub inverse_left : (m a b x : ℕ) → IsInverse m (a * b) x → IsInverse m a ((x * b) % m)
inverse_left m a b x h =
    let l = h.below in
    let e : a * (x * b) ≡ a * b * x = omega arith in
    record { below = mod-lt (x * b) (omega (arith, l)); one = mul-mod_second a (x * b) m ∙ ap (λ v. v % m) e ∙ h.one }

-- the inverse of a product gives that of the right factor
pub inverse_right : (m a b x : ℕ) → IsInverse m (a * b) x → IsInverse m b ((x * a) % m)
inverse_right m a b x h =
    let l = h.below in
    let e : b * (x * a) ≡ a * b * x = omega arith in
    record { below = mod-lt (x * a) (omega (arith, l)); one = mul-mod_second b (x * a) m ∙ ap (λ v. v % m) e ∙ h.one }

one_more : (m i j x : ℕ) (f : ℕ → ℕ) → IsInverse m (product_below j f) x → j ≡ i + 1
    → IsInverse m (product_below i f * f i) x
one_more m i j x f h e = subst (λ p. IsInverse m p x) (ap (λ k. product_below k f) e ∙ product-more f i) h

-- over a range, in the shape of the contract of `mul`: the inverse of the product before the last factor
pub inverse_before : (m i j b w x : ℕ) (f : ℕ → ℕ) → IsInverse m (product_below j f) x → j ≡ i + 1
    → w ≡ (x * b) % m → b ≡ f i → IsInverse m (product_below i f) w
inverse_before m i j b w x f h e is factor =
    rw (is, factor) (inverse_left m (product_below i f) (f i) x (one_more m i j x f h e))

-- over a range, in the shape of the contract of `mul`: the inverse of the last factor
pub inverse_last : (m i j b w x : ℕ) (f : ℕ → ℕ) → IsInverse m (product_below j f) x → j ≡ i + 1
    → w ≡ (x * b) % m → b ≡ product_below i f % m → IsInverse m (f i) w
inverse_last m i j b w x f h e is before =
    let same = is ∙ ap (λ v. (x * v) % m) before ∙ mul-mod_second x (product_below i f) m in
    subst (IsInverse m (f i)) (sym same) (inverse_right m (product_below i f) (f i) x (one_more m i j x f h e))

-- the product of the inverses is the inverse of the product
pub inverse_both : (m a b x y : ℕ) → IsInverse m a x → IsInverse m b y → IsInverse m (a * b) ((x * y) % m)
inverse_both m a b x y h k =
    let l = h.below in
    let e : a * b * (x * y) ≡ (a * x) * (b * y) = omega arith in
    record {
      below = mod-lt (x * y) (omega (arith, l));
      one = mul-mod_second (a * b) (x * y) m ∙ ap (λ v. v % m) e ∙ same_product m (a * x) 1 (b * y) 1 h.one k.one;
    }

-- a product has an inverse exactly where both factors have
pub has_both : (m a b : ℕ) → HasInverse m (a * b) ↔ (HasInverse m a × HasInverse m b)
has_both m a b = (
  (λ h. ((_, inverse_left m a b h.0 h.1), (_, inverse_right m a b h.0 h.1))),
  (λ h. (_, inverse_both m a b h.0.0 h.1.0 h.0.1 h.1.1)),
)

has_one : (m : ℕ) → 0 < m → HasInverse m 1
has_one m p =
    let e : 1 * 1 ≡ 1 = omega arith in
    (1 % m, record { below = mod-lt 1 p; one = mul-mod_second 1 1 m ∙ ap (λ v. v % m) e })

-- a product over a range has an inverse only where each factor has
pub has_each : (m n : ℕ) (f : ℕ → ℕ) → HasInverse m (product_below n f) → (i : ℕ) → i < n → HasInverse m (f i)
unfolding product_below
has_each m zero f h i l = absurd (omega arith)
has_each m (suc n) f h i l =
    let both = (has_both m (product_below n f) (f n)).0 h in
    elim (cases_eq i n) [
      | inl e ↦ subst (λ k. HasInverse m (f k)) (sym e) both.1
      | inr other ↦ has_each m n f both.0 i (omega arith)
    ]

-- a product over a range has an inverse wherever each factor has
pub has_product : (m n : ℕ) (f : ℕ → ℕ) → 0 < m → ((i : ℕ) → i < n → HasInverse m (f i))
    → HasInverse m (product_below n f)
unfolding product_below
has_product m zero f p each = has_one m p
has_product m (suc n) f p each =
    (has_both m (product_below n f) (f n)).1 (has_product m n f p (λ i l. each i (omega arith)), each n (omega arith))

-- where the product's residue has no inverse, some factor has none
pub no_inverse : (m n p : ℕ) (f : ℕ → ℕ) → p ≡ product_below n f % m → p < m → ((x : ℕ) → IsInverse m p x → ⊥)
    → ((i : ℕ) → i < n → HasInverse m (f i)) → ⊥
no_inverse m n p f e l none each =
    let h = has_product m n f (omega (arith, l)) each in
    none h.0
    (record { below = h.1.below; one = ap (λ v. (v * h.0) % m) e ∙ mul-mod_first (product_below n f) h.0 m ∙ h.1.one })

-- the set for `using` with which a loop that fills a list with the products so far needs no answer
pub ruleset products_so_far = (entry_at, hold_more, product_none, product_step, no_inverse)
