-- Inverses modulo m: there is at most one, and `inverse_of` names it.
use Rattle.std.proofs.Common.{◌≡◌, ℕ, suc, zero, ◌*◌, ◌%◌, ◌<◌, Option, Some}
use Rattle.std.proofs.Common.{None, sym, ◌∙◌, ap, refl, arith, eqb, cond}
use Rattle.std.proofs.lemmas.Bool.Decides.{nat_tests}
use Rattle.std.proofs.lemmas.Nat.{mul-mod_first}
use Rattle.std.proofs.Math.Nat.{mod-eq_of_lt, one-mul, mul_right_comm}
use Rattle.modular_word.specs.Inverses.{IsInverse, IsInversion, HasInverse, inverse_below, inverse_of}

-- a number below m is what is left of it times an inverse pair
product_with_inverse : (m a x y : ℕ) → (a * y) % m ≡ 1 % m → x < m → (a * y * x) % m ≡ x
product_with_inverse m a x y e h =
    sym (mul-mod_first _ _ _) ∙ ap (λ n. n * x % m) e ∙ mul-mod_first _ _ _
    ∙ ap (λ n. n % m) (one-mul _) ∙ mod-eq_of_lt h

-- two inverses of one number are equal
pub inverse_unique : (m a x y : ℕ) → IsInverse m a x → IsInverse m a y → x ≡ y
inverse_unique m a x y p q =
    sym (product_with_inverse m a x y q.one p.below) ∙ ap (λ n. n % m) (mul_right_comm a y x)
    ∙ product_with_inverse m a y x p.one q.below

some_step : (m a b x : ℕ) (rest : Option ℕ) → (rest ≡ Some x → (x < b) × ((a * x) % m ≡ 1 % m))
    → cond (eqb ((a * b) % m) (1 % m)) (Some b) rest ≡ Some x → (x < suc b) × ((a * x) % m ≡ 1 % m)
some_step m a b x rest ih e = grind (arith, nat_tests)

found_inverse_below_bound : (m a bound x : ℕ) → inverse_below m a bound ≡ Some x → (x < bound) × ((a * x) % m ≡ 1 % m)
unfolding inverse_below
found_inverse_below_bound m a zero x e = absurd (cc)
found_inverse_below_bound m a (suc b) x e = some_step m a b x (inverse_below m a b) (found_inverse_below_bound m a b x)
    e

none_step : (m a b x : ℕ) (rest : Option ℕ) → (rest ≡ None → x < b → (a * x) % m ≡ 1 % m → ⊥)
    → cond (eqb ((a * b) % m) (1 % m)) (Some b) rest ≡ None → x < suc b → (a * x) % m ≡ 1 % m → ⊥
none_step m a b x rest ih e h w = grind (arith, nat_tests)

no_inverse_below_bound : (m a bound x : ℕ) → inverse_below m a bound ≡ None → x < bound → (a * x) % m ≡ 1 % m → ⊥
unfolding inverse_below
no_inverse_below_bound m a zero x e h w = omega arith
no_inverse_below_bound m a (suc b) x e h w = none_step m a b x (inverse_below m a b) (no_inverse_below_bound m a b x) e
    h w

found_from : (m a x : ℕ) (o : Option ℕ) → inverse_of m a ≡ o → IsInverse m a x → inverse_of m a ≡ Some x
found_from m a x None e h = absurd (no_inverse_below_bound m a m x e h.below h.one)
found_from m a x (Some y) e h =
    e ∙ ap Some (inverse_unique _ _ y _ (record {
      below = (found_inverse_below_bound _ _ _ y e).0;
      one =
          (found_inverse_below_bound _ _ _ y e).1;
    }) h)

-- an inverse is the one that `inverse_of` names
pub inverse_of-found : (m a x : ℕ) → IsInverse m a x → inverse_of m a ≡ Some x
inverse_of-found m a x h = found_from m a x (inverse_of m a) refl h

none_from : (m a : ℕ) (o : Option ℕ) → inverse_of m a ≡ o → ((x : ℕ) → IsInverse m a x → ⊥) → inverse_of m a ≡ None
none_from m a None e h = e
none_from m a (Some y) e h =
    absurd (h y (record {
      below = (found_inverse_below_bound _ _ _ y e).0;
      one =
          (found_inverse_below_bound _ _ _ y e).1;
    }))

-- where there is none, it names none
pub inverse_of-none : (m a : ℕ) → ((x : ℕ) → IsInverse m a x → ⊥) → inverse_of m a ≡ None
inverse_of-none m a h = none_from m a (inverse_of m a) refl h

-- where it names none, there is none
pub inverse_of-empty : (m a x : ℕ) → inverse_of m a ≡ None → IsInverse m a x → ⊥
inverse_of-empty m a x e h = no_inverse_below_bound m a m x e h.below h.one

-- where it names one, that is an inverse
pub inverse_of-named : (m a x : ℕ) → inverse_of m a ≡ Some x → IsInverse m a x
inverse_of-named m a x e = let s = found_inverse_below_bound m a m x e in record { below = s.0; one = s.1 }

inversion_from : (m a : ℕ) (o : Option ℕ) → inverse_of m a ≡ o → IsInversion (λ x. x) m a o
inversion_from m a None e = λ x i. no_inverse_below_bound m a m x e i.below i.one
inversion_from m a (Some y) e = let s = found_inverse_below_bound m a m y e in record { below = s.0; one = s.1 }

-- what `inverse_of` names is an inverse, and where it names none there is none
pub inverse_of-is : (m a : ℕ) → IsInversion (λ x. x) m a (inverse_of m a)
inverse_of-is m a = inversion_from m a (inverse_of m a) refl

-- a number and its residue have one inverse
pub inverse_from_mod : (m a x : ℕ) → IsInverse m (a % m) x → IsInverse m a x
inverse_from_mod m a x h = record { below = h.below; one = sym (mul-mod_first a x m) ∙ h.one }

pub inverse_mod : (m a x : ℕ) → IsInverse m a x → IsInverse m (a % m) x
inverse_mod m a x h = record { below = h.below; one = mul-mod_first a x m ∙ h.one }

pub HasInverse-from_mod : (m a : ℕ) → HasInverse m (a % m) → HasInverse m a
HasInverse-from_mod m a h = (h.0, inverse_from_mod m a h.0 h.1)

pub HasInverse-mod : (m a : ℕ) → HasInverse m a → HasInverse m (a % m)
HasInverse-mod m a h = (h.0, inverse_mod m a h.0 h.1)
