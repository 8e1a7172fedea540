-- Residues of whole numbers: `residue` is the residue, and no other number is.
use Rattle.std.proofs.Common.{◌≡◌, ℕ, suc, ◌+◌, ◌-◌, ◌*◌, ◌%◌, ◌/◌, ◌<◌, ◌≤◌, ℤ, pos}
use Rattle.std.proofs.Common.{negsuc, ◌+ℤ◌, ◌-ℤ◌, ◌*ℤ◌, neg_ℤ, sym, ◌∙◌, ap, arith}
use Rattle.std.proofs.lemmas.Nat.{mod_below, same_from_place}
use Rattle.std.proofs.lemmas.Int.{ints}
use Rattle.std.proofs.Math.Nat.{mod-eq_of_lt, add-mul-mod_self_left}
use Rattle.modular_word.specs.Residues.{IsResidue, residue}

-- `residue` is the residue
pub residue_is : (m : ℕ) (z : ℤ) → 0 < m → IsResidue m z (residue m z)
residue_is m (pos n) h =
    record {
      below = mod_below n _ h;
      quotient = pos (n / m);
      differs = ap pos (omega arith);
    }
residue_is m (negsuc n) h =
    record {
      below = let b = mod_below n _ h in omega arith;
      quotient = negsuc (n / m);
      differs = let b = mod_below n _ h in omega (arith, ints);
    }

unique_at : (m v w : ℕ) (p q : ℤ) → v < m → w < m → pos v +ℤ (p *ℤ pos m) ≡ pos w +ℤ (q *ℤ pos m) → v ≡ w
unique_at m v w (pos a) (pos b) h k e =
    let n : a * m + v ≡ b * m + w = omega (arith, ints) in (same_from_place a v b w m h k n).1
unique_at m v w (pos a) (negsuc b) h k e = grind (arith, ints, same_from_place)
unique_at m v w (negsuc a) (pos b) h k e = grind (arith, ints, same_from_place)
unique_at m v w (negsuc a) (negsuc b) h k e =
    let n : suc b * m + v ≡ suc a * m + w = omega (arith, ints) in (same_from_place (suc b) v (suc a) w m h k n).1

-- no other number is
pub residue_unique : (m : ℕ) (z : ℤ) (v w : ℕ) → IsResidue m z v → IsResidue m z w → v ≡ w
residue_unique m z v w p q = unique_at m v w p.quotient q.quotient p.below q.below (sym p.differs ∙ q.differs)

difference_at : (m a b v : ℕ) (q : ℤ) → pos a -ℤ pos b ≡ pos v +ℤ (q *ℤ pos m) → (v + b) % m ≡ a % m
difference_at m a b v (pos k) e = sym (add-mul-mod_self_left _ _ k) ∙ ap (λ x. x % m) (sym (omega (arith, ints)))
difference_at m a b v (negsuc k) e = ap (λ x. x % m) (omega (arith, ints)) ∙ add-mul-mod_self_left _ _ (suc k)

-- the residue of a - b, and b
pub difference_and : (m a b : ℕ) → 0 < m → (residue m (pos a -ℤ pos b) + b) % m ≡ a % m
difference_and m a b h =
    difference_at _ _ _ (residue m (pos a -ℤ pos b)) (residue_is _ (pos a -ℤ pos b) h).quotient
    (residue_is _ (pos a -ℤ pos b) h).differs

-- the residue of a difference of numbers below m, without a borrow and with one
pub residue_sub : (m v w : ℕ) → v < m → w ≤ v → residue m (pos v -ℤ pos w) ≡ v - w
residue_sub m v w h k = grind (arith, ints, mod-eq_of_lt)

pub residue_sub_wrapped : (m v w : ℕ) → w < m → v < w → residue m (pos v -ℤ pos w) ≡ v + (m - w)
residue_sub_wrapped m v w h k = grind (arith, ints, mod-eq_of_lt)

pub residue_neg : (m v : ℕ) → v < m → 0 < v → residue m (neg_ℤ (pos v)) ≡ m - v
residue_neg m v h k = grind (arith, neg_ℤ, ints, mod-eq_of_lt)
