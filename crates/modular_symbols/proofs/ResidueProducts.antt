-- The residue of a product of integers is that of the residues' product.
use Rattle.std.proofs.Common.{◌≡◌, ℕ, zero, suc, ◌+◌, ◌*◌, ◌/◌, ◌%◌, ◌<◌, ℤ}
use Rattle.std.proofs.Common.{pos, negsuc, ◌*ℤ◌, neg_ℤ, sym, ◌∙◌, ap, arith}
use Rattle.std.proofs.lemmas.Nat.{mod_below, mul-mod, mul-mod_second}
use Rattle.std.proofs.Math.Nat.{mod-eq_of_lt, mod-add-mod, zero-mod, add-mul-mod_self_left}
use Rattle.modular_word.specs.Residues.{residue}
use Rattle.modular_word.proofs.Congruence.{mod_cancel}
use Rattle.modular_word.proofs.Divisors.{remainder_of_multiple_is_zero, divides_product, multiple_of}

pub residue_below : (n : ℕ) (z : ℤ) → 0 < n → residue n z < n
residue_below n (pos a) p = mod_below a n p
residue_below n (negsuc a) p = omega arith

-- a negative number's residue and its magnitude add up to a multiple of n
pub residue_opposite : (n a : ℕ) → 0 < n → (residue n (negsuc a) + suc a) % n ≡ 0
residue_opposite n a p = search (arith, mod_below, remainder_of_multiple_is_zero)

-- and no other number below n does so
pub residue_minus : (n m r : ℕ) → r < n → (r + m) % n ≡ 0 → residue n (neg_ℤ (pos m)) ≡ r
residue_minus n zero r h e = search (arith, zero-mod, mod-eq_of_lt)
residue_minus n (suc a) r h e =
    mod_cancel _ (residue n (negsuc a)) _ (suc a) (residue_below _ (negsuc a) (omega arith)) h
    (residue_opposite _ a (omega arith) ∙ sym e)

-- r * b is opposite to m * b where r is to m
opposite_products_cancel : (n r m b : ℕ) → (r + m) % n ≡ 0 → ((r * b) % n + m * b) % n ≡ 0
opposite_products_cancel n r m b e =
    let f : (r + m) * b ≡ r * b + m * b = omega arith in
    mod-add-mod _ _ _ ∙ sym (ap (λ v. v % n) f) ∙ divides_product _ _ _ e

both_opposite : (n r s a b : ℕ) → (r + a) % n ≡ 0 → (s + b) % n ≡ 0 → (a * b) % n ≡ (r * s) % n
both_opposite n r s a b e f =
    let u = ap (λ v. v * b) (multiple_of n (r + a) e) in
    let w = ap (λ v. r * v) (multiple_of n (s + b) f) in
    sym (add-mul-mod_self_left (a * b) n (((s + b) / n) * r)) ∙ ap (λ v. v % n) (omega arith)
    ∙ add-mul-mod_self_left (r * s) n (((r + a) / n) * b)

pub residue-product : (n : ℕ) (z w : ℤ) → 0 < n → residue n (z *ℤ w) ≡ (residue n z * residue n w) % n
residue-product n (pos a) (pos b) p = mul-mod a b n
residue-product n (pos a) (negsuc b) p =
    let r : ℕ = residue n (negsuc b) in
    let e : r * (a % n) ≡ a % n * r = omega arith in
    let f : suc b * a ≡ a * suc b = omega arith in
    residue_minus _ (a * suc b) ((a % n * r) % n) (mod_below (a % n * r) _ p)
    (search (arith, mul-mod_second, opposite_products_cancel, residue_opposite))
residue-product n (negsuc a) (pos b) p =
    search (arith, residue_minus, mod_below, mul-mod_second, opposite_products_cancel, residue_opposite)
residue-product n (negsuc a) (negsuc b) p = search (arith, both_opposite, residue_opposite)

-- that of a multiple
pub residue-multiple : (n : ℕ) (z : ℤ) (x : ℕ) → 0 < n → residue n (z *ℤ pos x) ≡ (residue n z * x) % n
residue-multiple n z x p = residue-product n z (pos x) p ∙ mul-mod_second (residue n z) x n
