-- Over an odd prime p the symbol of a is 1 exactly where a is the square of a number that
-- p doesn't divide. Where a isn't one, the numbers below p fall into pairs of product a,
-- so that their product is a^((p - 1)/2); and it is -1, by the pairs of product 1 (Wilson's theorem).
-- Dirichlet's proof: Hardy and Wright, "An Introduction to the Theory of Numbers", sections 6.5 and 6.6.
use Rattle.std.proofs.Common.{◌≡◌, ◌≢◌, ℕ, zero, suc, ◌+◌, ◌-◌, ◌*◌, ◌/◌, ◌%◌, ◌^◌, ◌<◌, ◌≤◌, cond, eqb, ltb}
use Rattle.std.proofs.Common.{ℤ, pos, sym, ◌∙◌, ap, arith, ⊎_elim, inl, inr, ◌⊎◌}
use Rattle.std.proofs.lemmas.Bool.Decides.{nat_tests}
use Rattle.std.proofs.lemmas.Bool.{cases_eq}
use Rattle.std.proofs.lemmas.Nat.{mod_below, mul-mod_second}
use Rattle.std.proofs.Math.Nat.{mod-eq_of_lt, mul-zero, mul-one, mul_comm, one-mul}
use Rattle.std.proofs.Math.Nat.{pow-suc, pow-zero, zero-mod, add-mul-mod_self_left}
use Rattle.modular_word.specs.Residues.{residue}
use Rattle.modular_word.specs.Sums.{sum_to, Permutes}
use Rattle.modular_word.proofs.Congruence.{same_product, same_without}
use Rattle.modular_word.proofs.Divisors.{coprime_cancel}
use Rattle.modular_word.proofs.Powers.{pow-one}
use Rattle.modular_word.proofs.Sums.{sum_to-same, sum_to-add, sum_to-ones, sum_to-permuted, last_or_before}
use Rattle.modular_symbols.specs.Jacobi.{half_system_count, jacobi}
use Rattle.modular_symbols.specs.Primes.{IsPrime}
use Rattle.modular_symbols.proofs.Euler.{below_coprime, cancel_below, square_of_last, classed_power-jacobi}
use Rattle.modular_symbols.proofs.JacobiLaws.{jacobi-residue, jacobi-product, jacobi-coprime, sign-values}
use Rattle.modular_symbols.proofs.PrimeLaws.{prime_to, fermats_little_theorem}
use Rattle.modular_symbols.proofs.RangeProducts.{product_to, product_to-zero, product_to-suc}
use Rattle.modular_symbols.proofs.RangeProducts.{product_to-same, product_to-times, product_to-ones}
use Rattle.modular_symbols.proofs.RangeProducts.{product_to-only, product_to-power, product_to-permuted}
use Rattle.modular_symbols.proofs.ResidueProducts.{residue_below}

-- ---- the partner of x: the number below p whose product with x leaves a
abbrev partner : ℕ → ℕ → ℕ → ℕ
partner p a x = (a * x ^ (p - 2)) % p

below_not_divided : (p x : ℕ) → 0 < x → x < p → x % p ≢ 0
below_not_divided p x q l e = let m = mod-eq_of_lt l in absurd (omega arith)

partner_product : (p a x : ℕ) → IsPrime p → 0 < x → x < p → (x * partner p a x) % p ≡ a % p
partner_product p a x u q l =
    let f : (x ^ (p - 2)) * x ≡ x ^ (p - 1) = sym (pow-suc _ _) ∙ ap (λ k. x ^ k) (omega arith) in
    mul-mod_second _ _ _ ∙ ap (λ v. v % p) (omega arith) ∙ ap (λ v. (a * v) % p) f
    ∙ sym (mul-mod_second _ (x ^ (p - 1)) _)
    ∙ ap (λ v. (a * v) % p) (fermats_little_theorem _ _ u (below_not_divided _ _ q l))
    ∙ ap (λ v. v % p) (mul-one _)

partner_below : (p a x : ℕ) → IsPrime p → partner p a x < p
partner_below p a x u = let two : 1 < p = u.above_one in mod_below (a * x ^ (p - 2)) p (omega arith)

partner_positive : (p a x : ℕ) → IsPrime p → a % p ≢ 0 → 0 < x → x < p → 0 < partner p a x
partner_positive p a x u z q l =
    let never : partner p a x ≢ 0 =
    λ e. z (sym (partner_product _ _ _ u q l) ∙ ap (λ v. (x * v) % p) e ∙ ap (λ v. v % p) (mul-zero _) ∙ zero-mod _) in
    omega arith

partner_of_partner : (p a x : ℕ) → IsPrime p → a % p ≢ 0 → 0 < x → x < p → partner p a (partner p a x) ≡ x
partner_of_partner p a x u z q l =
    cancel_below _ _ (partner p a (partner p a x)) _
    (below_coprime _ _ u (partner_positive _ _ _ u z q l) (partner_below _ _ _ u)) (partner_below _ _ _ u) l
    (partner_product _ _ _ u (partner_positive _ _ _ u z q l) (partner_below _ _ _ u)
    ∙ sym (partner_product _ _ _ u q l)
    ∙ ap (λ v. v % p) (mul_comm _ _))

partners_permute : (p a : ℕ) → IsPrime p → a % p ≢ 0 → Permutes (λ x. partner p a x) (p - 1)
partners_permute p a u z =
    record {
      positive = λ x q l. partner_positive _ _ x u z q (omega arith);
      within = λ x q l. let two : 1 < p = u.above_one in omega arith;
      apart = λ x y q l r m e. sym (partner_of_partner _ _ x u z q (omega arith)) ∙ ap (λ v. partner p a v) e
          ∙ partner_of_partner _ _ y u z r (omega arith);
    }

-- ---- a product over a range that a permutation pairs
abbrev lower : (ℕ → ℕ) → ℕ → ℕ
lower s x = cond (ltb x (s x)) x 1

abbrev higher : (ℕ → ℕ) → ℕ → ℕ
higher s x = cond (ltb (s x) x) x 1

abbrev fixed : (ℕ → ℕ) → ℕ → ℕ
fixed s x = cond (eqb x (s x)) x 1

abbrev pair : (ℕ → ℕ) → ℕ → ℕ
pair s x = cond (ltb x (s x)) (x * s x) 1

product_in_pairs : (s : ℕ → ℕ) (h : ℕ) → Permutes s h → ((x : ℕ) → 0 < x → x ≤ h → s (s x) ≡ x)
    → product_to (λ x. x) h ≡ product_to (pair s) h * product_to (fixed s) h
product_in_pairs s h m twice =
    product_to-same (λ x. x) (λ x. lower s x * higher s x * fixed s x) h (λ x p q. grind (arith, nat_tests))
    ∙ product_to-times (λ x. lower s x * higher s x) (fixed s) h ∙ ap (λ v. v * product_to (fixed s) h)
    (product_to-times (lower s) (higher s) h
    ∙ ap (λ v. product_to (lower s) h * v) (sym (product_to-permuted s (higher s) h m))
    ∙ sym (product_to-times (lower s) (λ x. higher s (s x)) h)
    ∙ product_to-same (λ x. lower s x * higher s (s x)) (pair s) h (λ x p q. grind (arith, nat_tests, twice x p q)))

-- congruent factors, congruent products
product_to-congruent : (n : ℕ) (f g : ℕ → ℕ) (h : ℕ) → ((x : ℕ) → 0 < x → x ≤ h → f x % n ≡ g x % n)
    → product_to f h % n ≡ product_to g h % n
product_to-congruent n f g zero e = rw (product_to-zero f, product_to-zero g)
product_to-congruent n f g (suc h) e =
    search (
      arith,
      product_to-suc,
      same_product,
      product_to,
      product_to-congruent n f g h
          (λ x p q. e x p (omega arith)),
    )

-- ---- pairs of product a, where none is paired with itself
abbrev leads : (ℕ → ℕ) → ℕ → ℕ
leads s x = cond (ltb x (s x)) 1 0

abbrev trails : (ℕ → ℕ) → ℕ → ℕ
trails s x = cond (ltb (s x) x) 1 0

half_lead : (s : ℕ → ℕ) (h : ℕ) → Permutes s h → ((x : ℕ) → 0 < x → x ≤ h → s (s x) ≡ x)
    → ((x : ℕ) → 0 < x → x ≤ h → x ≢ s x) → sum_to (leads s) h + sum_to (leads s) h ≡ h
half_lead s h m twice apart =
    let same : sum_to (leads s) h ≡ sum_to (trails s) h =
    sum_to-same (leads s) (λ x. trails s (s x)) _ (λ x p q. ap (λ v. cond (ltb v (s x)) 1 0) (sym (twice x p q)))
    ∙ sum_to-permuted _ (trails s) _ m in
    ap (λ v. sum_to (leads s) h + v) same ∙ sym (sum_to-add (leads s) (trails s) _)
    ∙ sum_to-same (λ x. leads s x + trails s x) (λ x. 1) _ (λ x p q. grind (arith, nat_tests, apart x p q))
    ∙ sum_to-ones _

product_of_pairs : (p a : ℕ) → p % 2 ≡ 1 → IsPrime p → a % p ≢ 0
    → ((x : ℕ) → 0 < x → x ≤ p - 1 → x ≢ partner p a x)
    → product_to (λ x. x) (p - 1) % p ≡ a ^ ((p - 1) / 2) % p
product_of_pairs p a o u z apart =
    let s : ℕ → ℕ = λ x. partner p a x in
    let h : ℕ = p - 1 in
    let m = partners_permute _ _ u z in
    let twice : (x : ℕ) → 0 < x → x ≤ h → s (s x) ≡ x = λ x q l. partner_of_partner _ _ _ u z q (omega arith) in
    ap (λ v. v % p)
    (product_in_pairs s h m twice
    ∙ ap (λ v. product_to (pair s) h * v)
    (product_to-same (fixed s) (λ x. 1) h (λ x q l. grind (arith, nat_tests, apart x q l)) ∙ product_to-ones h)
    ∙ mul-one (product_to (pair s) h))
    ∙ product_to-congruent p (pair s) (λ x. a ^ leads s x) h
    (λ x q l. search (arith, pow-one, pow-zero, nat_tests, partner_product p a x u q (omega arith)))
    ∙ ap (λ v. v % p) (product_to-power a (leads s) h ∙ ap (λ k. a ^ k) (omega (arith, half_lead)))

-- ---- Wilson's theorem: the pairs of product 1, where 1 and p - 1 alone are paired with themselves
root_of_one : (p x : ℕ) → IsPrime p → 0 < x → x < p → (x * x) % p ≡ 1 → x ≢ p - 1 → x ≡ 1
root_of_one p zero u q l e z = absurd (omega arith)
root_of_one p (suc y) u q l e z =
    ⊎_elim
    (λ (n : y ≡ 0). omega arith)
    (λ (n : y ≡ 0 → ⊥).
    let gone : (y * (y + 2)) % p ≡ 0 % p =
    same_without _ (y * (y + 2)) _ 1 (omega arith) (ap (λ v. v % p) (omega arith) ∙ e
    ∙ sym (mod-eq_of_lt u.above_one)) in
    search (arith, coprime_cancel, below_coprime, zero-mod, below_not_divided))
    (cases_eq y _)

last_is_fixed : (p : ℕ) → IsPrime p → p - 1 ≡ partner p 1 (p - 1)
last_is_fixed p u =
    let l : p - 1 < p = omega arith in
    cancel_below p (p - 1) (p - 1) (partner p 1 (p - 1)) (below_coprime p (p - 1) u (omega arith) l) l
    (partner_below p 1 (p - 1) u)
    (ap (λ v. v % p) (square_of_last p (p - 2) (omega arith)) ∙ add-mul-mod_self_left 1 p (p - 2)
    ∙ sym (partner_product p 1 (p - 1) u (omega arith) l))

pub wilsons_theorem : (p : ℕ) → IsPrime p → product_to (λ x. x) (p - 1) % p ≡ p - 1
wilsons_theorem p u =
    let one : 1 % p ≡ 1 = mod-eq_of_lt u.above_one in
    let s : ℕ → ℕ = λ x. partner p 1 x in
    let h : ℕ = p - 1 in
    let twice : (x : ℕ) → 0 < x → x ≤ h → s (s x) ≡ x = grind (arith, partner_of_partner) in
    let last : product_to (fixed s) h ≡ p - 1 =
    product_to-only (fixed s) _ _ (omega arith) (omega arith)
    (λ x q l n.
    let r : x ≡ s x → x ≡ 1 = λ e.
    root_of_one _ x u q (omega arith) (ap (λ v. (x * v) % p) e ∙ partner_product _ _ x u q (omega arith) ∙ one) n in
    grind (arith, nat_tests))
    ∙ grind (arith, nat_tests, last_is_fixed p u) in
    let pairs : product_to (pair s) h % p ≡ 1 % p =
    product_to-congruent _ (pair s) (λ x. 1) _
    (λ x q l. grind (arith, nat_tests, partner_product p 1 x u q (omega arith)))
    ∙ ap (λ v. v % p) (product_to-ones _) in
    ap (λ v. v % p) (product_in_pairs _ _ (partners_permute p 1 u (λ e. omega arith)) twice)
    ∙ same_product _ (product_to (pair s) _) _ (product_to (fixed s) _) _ pairs (ap (λ v. v % p) last)
    ∙ ap (λ v. v % p) (one-mul _) ∙ mod-eq_of_lt (omega arith)

-- ---- a root of r below k, or none
abbrev IsRoot : ℕ → ℕ → ℕ → ℕ → Type 0
IsRoot p r k x = (0 < x) × ((x ≤ k) × ((x * x) % p ≡ r))

root_or_none : (p r k : ℕ) → ((x : ℕ) × IsRoot p r k x) ⊎ ((x : ℕ) → 0 < x → x ≤ k → (x * x) % p ≢ r)
root_or_none p r zero = inr (λ x q l e. absurd (omega arith))
root_or_none p r (suc k) =
    ⊎_elim
    (λ (f : (x : ℕ) × IsRoot p r k x). inl (f.0, (f.1.0, (omega arith, f.1.1.1))))
    (λ (n : (x : ℕ) → 0 < x → x ≤ k → (x * x) % p ≢ r).
    ⊎_elim
    (λ (e : (suc k * suc k) % p ≡ r). inl (suc k, (omega arith, (omega arith, e))))
    (λ (z : (suc k * suc k) % p ≡ r → ⊥). search (arith, last_or_before))
    (cases_eq ((suc k * suc k) % p) _))
    (root_or_none p r k)

-- ---- the theorem
half_power_is_one : (a : ℤ) (p : ℕ) → p % 2 ≡ 1 → IsPrime p → jacobi a p ≡ pos 1 → residue p a ^ ((p - 1) / 2) % p ≡ 1
half_power_is_one a p o u e = grind (arith, nat_tests, classed_power-jacobi a p o u)

not_zero_power : (p r : ℕ) → 1 < p → p % 2 ≡ 1 → r ^ ((p - 1) / 2) % p ≡ 1 → r ≢ 0
not_zero_power p r l o e z =
    let k : suc (((p - 1) / 2) - 1) ≡ ((p - 1) / 2) = omega arith in
    search (arith, pow-suc, mul-zero, zero-mod)

-- a number of symbol 1 has a root
pub root_from_symbol : (a : ℤ) (p : ℕ) → p % 2 ≡ 1 → IsPrime p → jacobi a p ≡ pos 1
    → (x : ℕ) × ((x % p ≢ 0) × ((x * x) % p ≡ residue p a))
root_from_symbol a p o u e =
    let r : ℕ = residue p a in
    let half = half_power_is_one a p o u e in
    let z : r % p ≢ 0 = λ n. not_zero_power p r u.above_one o half (sym (mod-eq_of_lt (residue_below p a (omega arith)))
    ∙ n) in
    ⊎_elim
    (λ (f : (x : ℕ) × IsRoot p r (p - 1) x). search (arith, below_not_divided))
    (λ (n : (x : ℕ) → 0 < x → x ≤ p - 1 → (x * x) % p ≢ r).
    let c = product_of_pairs p r o u z (λ x q l f.
    n x q l (ap (λ v. (x * v) % p) f ∙ partner_product p r x u q (omega arith)
    ∙ (mod-eq_of_lt (residue_below p a (omega arith))))) in
    search (arith, wilsons_theorem))
    (root_or_none p r (p - 1))

-- and a square has the symbol 1
pub symbol_of_root : (a : ℤ) (p x : ℕ) → p % 2 ≡ 1 → IsPrime p → x % p ≢ 0
    → (x * x) % p ≡ residue p a → jacobi a p ≡ pos 1
symbol_of_root a p x o u z e =
    let q : 0 < p = omega arith in
    jacobi-residue _ _ q ∙ ap (λ v. jacobi (pos v) p) (sym e) ∙ sym (jacobi-residue (pos (x * x)) _ q)
    ∙ jacobi-product (pos x) (pos x) _ o
    ∙ grind (arith, jacobi-coprime (pos x) _ q (prime_to _ _ u z), sign-values (half_system_count (pos x) p))
