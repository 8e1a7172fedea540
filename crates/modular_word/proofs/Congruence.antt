-- Congruence: numbers that leave the same remainder modulo m.
-- First by equal remainders, then by the relation `Congruent`.
use Rattle.std.proofs.Common.{◌≡◌, ℕ, suc, zero, ◌^◌, ◌+◌, ◌-◌, ◌*◌, ◌%◌, ◌<◌, sym, ap, ◌∙◌, arith, refl}
use Rattle.std.proofs.Math.Nat.{add-mod, mod-add-mod, mod-mod, mod-zero, mod-lt, mod-eq_of_lt, mod-mod_of_dvd}
use Rattle.std.proofs.Math.Nat.{dvd-mul_left, dvd-mul_right, div-add-mod, add-mul-mod_self_left, mul-div_cancel_left}
use Rattle.std.proofs.lemmas.Nat.{mul-mod, pow-mod}
use Rattle.modular_word.specs.Congruence.{Congruent}

-- two numbers below B that differ by multiples of B are equal
pub same_rest : (B x y s t : ℕ) → x < B → y < B → x + B * s ≡ y + B * t → x ≡ y
same_rest B x y s t hx hy e =
    sym (mod-eq_of_lt hx) ∙ sym (add-mul-mod_self_left _ _ _) ∙ ap (λ n. n % B) e
    ∙ add-mul-mod_self_left _ _ _ ∙ mod-eq_of_lt hy

-- a summand cancels under a remainder
pub mod_cancel : (B x y z : ℕ) → x < B → y < B → (x + z) % B ≡ (y + z) % B → x ≡ y
mod_cancel B x y z hx hy e = grind (arith, div-add-mod, same_rest)

-- a positive factor cancels
pub factor_cancel : (B x y : ℕ) → 0 < B → B * x ≡ B * y → x ≡ y
factor_cancel B x y h e = grind (arith, mul-div_cancel_left)

-- sums and products of congruent numbers are congruent
pub same_sum : (m a b c d : ℕ) → a % m ≡ b % m → c % m ≡ d % m → (a + c) % m ≡ (b + d) % m
same_sum m a b c d e f = grind (arith, add-mod)

pub same_product : (m a b c d : ℕ) → a % m ≡ b % m → c % m ≡ d % m → (a * c) % m ≡ (b * d) % m
same_product m a b c d e f = grind (arith, mul-mod)

-- a summand cancels
pub same_without : (m a b c : ℕ) → 0 < m → (a + c) % m ≡ (b + c) % m → a % m ≡ b % m
same_without m a b c h e =
    mod_cancel m (a % m) (b % m) c (mod-lt a h) (mod-lt b h) (mod-add-mod a m c ∙ e ∙ sym (mod-add-mod b m c))

-- a factor with an inverse cancels
pub same_without_unit : (m a b c j : ℕ) → (c * j) % m ≡ 1 % m → (a * c) % m ≡ (b * c) % m → a % m ≡ b % m
same_without_unit m a b c j u e =
    let back : (x : ℕ) → (x * c * j) % m ≡ x % m =
    λ x. ap (λ v. v % m) (omega arith) ∙ same_product _ x x _ _ refl u ∙ ap (λ v. v % m) (omega arith) in
    sym (back a) ∙ same_product _ _ _ _ _ e refl ∙ back b

-- a factor with a negated inverse cancels
pub same_without_negated_unit : (m a b c i : ℕ) → 0 < m → (c * i + 1) % m ≡ 0 % m → (a * c) % m ≡ (b * c) % m
    → a % m ≡ b % m
same_without_negated_unit m a b c i h u e =
    let gone : (x : ℕ) → (x * c * i + x) % m ≡ 0 % m =
    λ x.
    let r : x * c * i + x ≡ x * (c * i + 1) = omega arith in
    ap (λ v. v % m) r ∙ same_product _ x x (c * i + 1) _ refl u ∙ ap (λ v. v % m) (omega arith) in
    let left : (a + b * c * i) % m ≡ (b + b * c * i) % m =
    same_sum _ _ _ (b * c * i) (a * c * i) refl (sym (same_product _ _ _ _ _ e refl))
    ∙ ap (λ v. v % m) (let r : a + a * c * i ≡ a * c * i + a = omega arith in r)
    ∙ gone a ∙ sym (gone b) ∙ ap (λ v. v % m) (let r : b * c * i + b ≡ b + b * c * i = omega arith in r) in
    same_without _ _ _ (b * c * i) h left

-- what is congruent modulo a multiple of m is congruent modulo m
pub mod_of_multiple : (m q x : ℕ) → x % (m * q) % m ≡ x % m
mod_of_multiple m q x = mod-mod_of_dvd m x (dvd-mul_right m q)

pub mod_of_multiple_left : (m q x : ℕ) → x % (q * m) % m ≡ x % m
mod_of_multiple_left m q x = mod-mod_of_dvd m x (dvd-mul_left m q)

-- a remainder with one more, that makes a multiple
pub next_is_multiple : (m x : ℕ) → 0 < m → x % m ≡ m - 1 → (x + 1) % m ≡ 0 % m
next_is_multiple m x h e = grind (arith, div-add-mod, add-mul-mod_self_left)

pub mod_of_eq : {m a b : ℕ} → a ≡ b → Congruent m a b
mod_of_eq {m} {a} {b} e = record { same = ap (λ n. n % m) e }

pub mod_refl : {m : ℕ} (a : ℕ) → Congruent m a a
mod_refl a = record { same = refl }

pub mod_sym : {m a b : ℕ} → Congruent m a b → Congruent m b a
mod_sym h = record { same = sym h.same }

pub mod_trans : {m a b c : ℕ} → Congruent m a b → Congruent m b c → Congruent m a c
mod_trans h k = record { same = h.same ∙ k.same }

pub residue_of : {m : ℕ} (a : ℕ) → Congruent m (a % m) a
residue_of {m} a = record { same = mod-mod a m }

pub mod_add : {m a b c d : ℕ} → Congruent m a b → Congruent m c d → Congruent m (a + c) (b + d)
mod_add {m} {a} {b} {c} {d} h k = record { same = same_sum m a b c d h.same k.same }

pub mod_mul : {m a b c d : ℕ} → Congruent m a b → Congruent m c d → Congruent m (a * c) (b * d)
mod_mul {m} {a} {b} {c} {d} h k = record { same = same_product m a b c d h.same k.same }

pub mod_pow : {m a b : ℕ} (k : ℕ) → Congruent m a b → Congruent m (a ^ k) (b ^ k)
mod_pow {m} {a} {b} k h = record { same = sym (pow-mod a k m) ∙ ap (λ n. n ^ k % m) h.same ∙ pow-mod b k m }

-- a summand on both sides goes
pub mod_add_cancel : {m a b : ℕ} (c : ℕ) → Congruent m (a + c) (b + c) → Congruent m a b
mod_add_cancel {m = zero} {a} {b} c h = grind (arith, mod-zero, mod_of_eq)
mod_add_cancel {m = suc m} {a} {b} c h = record { same = same_without (suc m) a b c (omega arith) h.same }

-- a factor with an inverse on both sides goes
pub mod_mul_cancel : {m a b : ℕ} (c j : ℕ) → Congruent m (c * j) 1 → Congruent m (a * c) (b * c) → Congruent m a b
mod_mul_cancel {m} {a} {b} c j u h = record { same = same_without_unit m a b c j u.same h.same }

-- numbers below m that are congruent are equal
pub equal_below : {m a b : ℕ} → a < m → b < m → Congruent m a b → a ≡ b
equal_below {m} {a} {b} p q h = sym (mod-eq_of_lt p) ∙ h.same ∙ mod-eq_of_lt q

-- what congruence is taken to be: an equivalence that sums, products and powers keep
pub ruleset congruences = (residue_of, mod_sym, mod_trans, mod_add, mod_mul, mod_pow, mod_add_cancel, mod_mul_cancel)
