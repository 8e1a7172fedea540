-- How often a function of finitely many places takes a value: if it takes none of w values more than m times, there are
-- at most w·m places.
use Rattle.std.proofs.Common.{◌≡◌, ℕ, zero, suc, ◌+◌, ◌*◌, ◌<◌, ◌≤◌, Bool, eqb, ltb, ◌&&◌, cond, arith}
use Rattle.std.proofs.lemmas.Bool.Decides.{nat_tests}

abbrev tick : Bool → ℕ
tick b = cond b 1 0

-- at how many of the places before n the value is w, and is below w
abbrev pub count : (ℕ → ℕ) → ℕ → ℕ → ℕ
count f w zero = 0
count f w (suc n) = count f w n + tick (eqb (f n) w)

abbrev pub count_below : (ℕ → ℕ) → ℕ → ℕ → ℕ
count_below f w zero = 0
count_below f w (suc n) = count_below f w n + tick (ltb (f n) w)

-- the place before n where the value is w for the time k
abbrev pub place : (ℕ → ℕ) → ℕ → ℕ → ℕ → ℕ
place f w zero k = 0
place f w (suc n) k = cond (eqb (f n) w && eqb (count f w n) k) n (place f w n k)

below_suc : (f : ℕ → ℕ) (w n : ℕ) → count_below f (suc w) n ≡ count_below f w n + count f w n
below_suc f w zero = omega arith
below_suc f w (suc n) = grind (arith, below_suc f w n, nat_tests)

below_zero : (f : ℕ → ℕ) (n : ℕ) → count_below f 0 n ≡ 0
below_zero f zero = omega arith
below_zero f (suc n) = grind (arith, below_zero f n, nat_tests)

below_all : (f : ℕ → ℕ) (w n : ℕ) → ((i : ℕ) → i < n → f i < w) → count_below f w n ≡ n
below_all f w zero each = omega arith
below_all f w (suc n) each =
    grind (arith, below_all f w n (λ i h. each i (omega arith)), each n (omega arith), nat_tests)

-- the place of a time: it is before n, the value is w there, and it is w at k places before
pub record IsPlace (f : ℕ → ℕ) (w n k i : ℕ) : Type 0 where
  pub within : i < n
  pub value : f i ≡ w
  pub rank : count f w i ≡ k

pub place_right : (f : ℕ → ℕ) (w n k : ℕ) → k < count f w n → IsPlace f w n k (place f w n k)
place_right f w zero k h = absurd (omega arith)
place_right f w (suc n) k h = grind (arith, place_right f w n k, nat_tests)

-- if each value below w is taken at most m times, there are at most w * m places
at_most_product : (f : ℕ → ℕ) (w n m : ℕ) → ((v : ℕ) → v < w → count f v n ≤ m) → count_below f w n ≤ w * m
at_most_product f zero n m each = let e = below_zero f n in omega (arith, e)
at_most_product f (suc w) n m each =
    let before = at_most_product f w n m (λ v h. each v (omega arith)) in
    grind (arith, below_suc)

pub size_bounded_by_multiplicities : (f : ℕ → ℕ) (w n m : ℕ) → ((i : ℕ) → i < n → f i < w)
    → ((v : ℕ) → v < w → count f v n ≤ m) → n ≤ w * m
size_bounded_by_multiplicities f w n m within each =
    let e = below_all f w n within in
    let most = at_most_product f w n m each in
    omega (arith, e, most)
