-- Products over a range: f 1 * f 2 * .. * f h.
use Rattle.std.proofs.Common.{◌≡◌, ℕ, zero, suc, ◌*◌, ◌^◌, ◌<◌, ◌≤◌, sym, ◌∙◌, ap, refl, arith, ⊎_elim, ◌≢◌}
use Rattle.std.proofs.Math.Nat.{pow-zero, pow-suc, mul-one}
use Rattle.std.proofs.lemmas.Nat.{pow-add}
use Rattle.modular_word.specs.Sums.{sum_to, Permutes}
use Rattle.modular_word.proofs.Powers.{pow-one}
use Rattle.modular_word.proofs.Sums.{equality_indicator, equality_indicator-same, equality_indicator-other, hits_one}
use Rattle.modular_word.proofs.Sums.{last_or_before}

-- f 1 * f 2 * .. * f h
pub product_to : (ℕ → ℕ) → ℕ → ℕ
product_to f zero = 1
product_to f (suc h) = product_to f h * f (suc h)

pub product_to-zero : (f : ℕ → ℕ) → product_to f 0 ≡ 1
unfolding product_to
product_to-zero f = refl

pub product_to-suc : (f : ℕ → ℕ) (h : ℕ) → product_to f (suc h) ≡ product_to f h * f (suc h)
unfolding product_to
product_to-suc f h = refl

-- two products agree where their factors do
pub product_to-same : (f g : ℕ → ℕ) (h : ℕ) → ((x : ℕ) → 0 < x → x ≤ h → f x ≡ g x) → product_to f h ≡ product_to g h
unfolding product_to
product_to-same f g zero e = refl
product_to-same f g (suc h) e = search (arith, product_to, product_to-same f g h (λ x p q. e x p (omega arith)))

pub product_to-times : (f g : ℕ → ℕ) (h : ℕ) → product_to (λ x. f x * g x) h ≡ product_to f h * product_to g h
unfolding product_to
product_to-times f g zero = refl
product_to-times f g (suc h) = ap (λ v. v * (f (suc h) * g (suc h))) (product_to-times f g h) ∙ omega arith

pub product_to-ones : (h : ℕ) → product_to (λ x. 1) h ≡ 1
unfolding product_to
product_to-ones zero = refl
product_to-ones (suc h) = let i = product_to-ones h in omega arith

pub product_to-constant : (a h : ℕ) → product_to (λ x. a) h ≡ a ^ h
unfolding product_to
product_to-constant a zero = sym (pow-zero a)
product_to-constant a (suc h) = ap (λ v. v * a) (product_to-constant a h) ∙ sym (pow-suc a h)

-- powers of one number have for product its power with the sum of their exponents
pub product_to-power : (g : ℕ) (f : ℕ → ℕ) (h : ℕ) → product_to (λ x. g ^ f x) h ≡ g ^ sum_to f h
unfolding product_to sum_to
product_to-power g f zero = sym (pow-zero g)
product_to-power g f (suc h) = grind (arith, pow-add, product_to-power g f h)

-- the order of two products is free
product_to-swap : (f : ℕ → ℕ → ℕ) (h k : ℕ)
    → product_to (λ x. product_to (λ y. f x y) k) h ≡ product_to (λ y. product_to (λ x. f x y) h) k
unfolding product_to
product_to-swap f zero k = sym (product_to-ones k)
product_to-swap f (suc h) k =
    ap (λ v. v * product_to (λ y. f (suc h) y) k) (product_to-swap f h k)
    ∙ sym (product_to-times (λ y. product_to (λ x. f x y) h) (λ y. f (suc h) y) _)

-- one factor of a product is split off
pub product_to-only : (f : ℕ → ℕ) (h z : ℕ) → 0 < z → z ≤ h → ((x : ℕ) → 0 < x → x ≤ h → x ≢ z → f x ≡ 1)
    → product_to f h ≡ f z
unfolding product_to
product_to-only f zero z p q e = absurd (omega arith)
product_to-only f (suc h) z p q e =
    ⊎_elim
    (λ (l : z ≤ h). search (arith, mul-one, product_to-only f h z p l (λ x u v w. e x u (omega arith) w)))
    (λ (l : z ≡ suc h).
    let i = product_to-same f (λ x. 1) h (λ x u v. e x u (omega arith) (omega arith)) in
    grind (arith, product_to-ones))
    (last_or_before _ _ q)

-- the factor at f x, among all
product_of_hits_at_index : (f g : ℕ → ℕ) (h x : ℕ) → Permutes f h → 0 < x → x ≤ h
    → product_to (λ y. g y ^ equality_indicator (f x) y) h ≡ g (f x)
product_of_hits_at_index f g h x m p q =
    product_to-only (λ y. g y ^ equality_indicator (f x) y) _ (f x) (m.positive x p q) (m.within x p q)
    (λ y u v w. search (arith, equality_indicator-other, pow-zero)) ∙ search (arith, equality_indicator-same, pow-one)

product_of_hits_at_value : (f g : ℕ → ℕ) (h y : ℕ) → Permutes f h → 0 < y → y ≤ h
    → product_to (λ x. g y ^ equality_indicator (f x) y) h ≡ g y
product_of_hits_at_value f g h y m p q =
    product_to-power (g y) (λ x. equality_indicator (f x) y) h ∙ search (arith, hits_one, pow-one)

-- a permutation leaves a product as it is
pub product_to-permuted : (f g : ℕ → ℕ) (h : ℕ) → Permutes f h → product_to (λ x. g (f x)) h ≡ product_to g h
product_to-permuted f g h m =
    sym (product_to-same (λ x. product_to (λ y. g y ^ equality_indicator (f x) y) h) (λ x. g (f x)) h
    (λ x p q. product_of_hits_at_index f g h x m p q))
    ∙ product_to-swap (λ x y. g y ^ equality_indicator (f x) y) h h
    ∙ product_to-same (λ y. product_to (λ x. g y ^ equality_indicator (f x) y) h) g h (λ y p q. product_of_hits_at_value
    f g h y m p q)
