-- The polynomial X·f: its coefficients and its values.
use Rattle.ring_codes.proofs.Names.{◌≡◌, ◌+◌, ◌*◌, ℕ, zero, suc, ap, refl, arith, Congruent, mod_refl, polynomial_at}
use Rattle.ring_codes.proofs.Names.{polynomial-first}
use Rattle.ring_codes.specs.Shifts.{shifted}

-- before the first coefficient, and from one to the next
pub shifted_none : (f : ℕ → ℕ) → shifted f 0 ≡ 0
unfolding shifted
shifted_none f = refl

pub shifted_next : (f : ℕ → ℕ) (i : ℕ) → shifted f (i + 1) ≡ f i
unfolding shifted
shifted_next f i = let e : i + 1 ≡ suc i = omega arith in ap (shifted f) e

pub shifted-values : (n X : ℕ) (f : ℕ → ℕ) → polynomial_at (suc n) (shifted f) X ≡ X * polynomial_at n f X
unfolding shifted
shifted-values n X f = let e = polynomial-first n (shifted f) X in omega (arith, e)

pub shifted-congruent : (m i : ℕ) (f g : ℕ → ℕ) → ((i : ℕ) → Congruent m (f i) (g i))
    → Congruent m (shifted f i) (shifted g i)
unfolding shifted
shifted-congruent m zero f g same = mod_refl 0
shifted-congruent m (suc i) f g same = same i
