-- With a constant that is given, exactly one polynomial has given values at points that fit and have inverses: 0 is one
-- point more.
use Rattle.ring_codes.proofs.Names.{◌≡◌, ◌≢◌, ◌+◌, ◌-◌, ◌%◌, ◌<◌, ◌≤◌, ◌-ℤ◌, ◌∙◌, ℕ, zero, suc, pos, ap, sym, arith}
use Rattle.ring_codes.proofs.Names.{refl, mod-eq_of_lt, mod-lt, same_coefficients, Congruent, HasInverse, mod_of_eq}
use Rattle.ring_codes.proofs.Names.{mod_refl, residue_of, mod_sym, mod_trans, polynomial_at, HaveUnitDifferences}
use Rattle.ring_codes.proofs.Names.{polynomial-first, polynomial-congruent, residue, IsEncoding, FitsShares}
use Rattle.ring_codes.proofs.Names.{IsPerfectlySecret}
use Rattle.ring_codes.proofs.Congruences.{mod_of_difference, mod_of_residue}
use Rattle.ring_codes.proofs.Counts.{fit_front}
use Rattle.ring_codes.proofs.Lagrange.{message_of}
use Rattle.ring_codes.proofs.NearestWords.{unit_alike}
use Rattle.ring_codes.proofs.NewtonForms.{turned_difference}

-- v, and then the numbers f
begun : ℕ → (ℕ → ℕ) → ℕ → ℕ
begun v f zero = v
begun v f (suc i) = f i

begun_below : (m d v : ℕ) (f : ℕ → ℕ) → v < m → ((i : ℕ) → i < d → f i < m) → (i : ℕ) → i < suc d → begun v f i < m
unfolding begun
begun_below m d v f first each zero l = first
begun_below m d v f first each (suc i) l = each i (omega arith)

-- a number that has an inverse, less 0
less_none : (m a : ℕ) → 0 < m → HasInverse m a → HasInverse m (residue m (pos a -ℤ pos 0))
less_none m a positive unit =
    let d : ℕ = residue m (pos a -ℤ pos 0) in
    let is : Congruent m (d + 0) a = mod_of_difference 0 positive refl in
    unit_alike m a d (mod_trans (mod_sym is) (mod_of_eq (omega arith))) unit

unit_with_none : (m d : ℕ) (x : ℕ → ℕ) → 0 < m → ((i : ℕ) → i < d → HasInverse m (x i)) → HaveUnitDifferences m d x
    → (i j : ℕ) → i < suc d → j < suc d → i ≢ j → HasInverse m (residue m (pos (begun 0 x i) -ℤ pos (begun 0 x j)))
unfolding begun
unit_with_none m d x positive each fit zero zero l k other = absurd (other refl)
unit_with_none m d x positive each fit zero (suc j) l k other =
    turned_difference m (x j) 0 (less_none m (x j) positive (each j (omega arith)))
unit_with_none m d x positive each fit (suc i) zero l k other = less_none m (x i) positive (each i (omega arith))
unit_with_none m d x positive each fit (suc i) (suc j) l k other =
    fit.unit i j (omega arith) (omega arith) (omega arith)

-- the values of what fits the shares
fitting_values : (m d secret : ℕ) (x y c : ℕ → ℕ) → FitsShares m (suc d) secret x y c
    → (i : ℕ) → i < suc d → Congruent m (polynomial_at (suc d) c (begun 0 x i)) (begun secret y i)
unfolding begun
fitting_values m d secret x y c fits zero l = mod_of_eq (omega (arith, polynomial-first d c 0, fits.constant))
fitting_values m d secret x y c fits (suc i) l = mod_sym (mod_of_residue (fits.encoding.symbol i (omega (arith, l))))

fitting_shares : (m d secret : ℕ) (x y c : ℕ → ℕ) → 0 < m
    → IsEncoding m (suc d) (suc d) (begun 0 x) c (begun secret y) → FitsShares m (suc d) secret x y (λ i. c i % m)
unfolding begun
fitting_shares m d secret x y c positive is =
    let first : c 0 ≡ polynomial_at (suc d) c 0 = omega (arith, polynomial-first d c 0) in
    record {
      below = λ i l. mod-lt (c i) positive;
      constant = ap (λ v. v % m) first ∙ sym (is.symbol 0 (omega arith));
      encoding = record {
        symbol = λ i l.
            is.symbol (suc i) (omega (arith, l))
            ∙ (polynomial-congruent (suc d) c (λ i. c i % m) (x i) (x i) (λ j b. mod_sym (residue_of (c j)))
            (mod_refl (x i))).same;
      };
    }

pub perfectly_secret_of_fit : (m k : ℕ) (x : ℕ → ℕ) → 1 ≤ k → ((i : ℕ) → i < k - 1 → HasInverse m (x i))
    → HaveUnitDifferences m (k - 1) x → IsPerfectlySecret m k x
perfectly_secret_of_fit m zero x some each fit = absurd (omega arith)
perfectly_secret_of_fit m (suc d) x some each fit = λ secret shares small below.
    let positive : 0 < m = omega (arith, small) in
    let apart = fit_front m (suc d - 1) d x (omega arith) fit in
    let points : HaveUnitDifferences m (suc d) (begun 0 x) =
    record { unit = unit_with_none m d x positive (λ i l. each i (omega (arith, l))) apart } in
    let found = message_of m (suc d) (begun 0 x) (begun secret shares) positive points
    (begun_below m d secret shares small (λ i l. below i (omega (arith, l)))) in
    let mine = fitting_shares m d secret x shares found.0 positive found.1 in (
      _,
      mine,
      λ other fits i l.
          rw (mod-eq_of_lt (fits.below i l), mod-eq_of_lt (mine.below i l)) at
          (same_coefficients m (suc d) other _ (begun 0 x) points
          (λ j b. mod_trans (fitting_values m d secret x shares other fits j b)
          (mod_sym (fitting_values m d secret x shares _ mine j b))) i l).same,
    )
