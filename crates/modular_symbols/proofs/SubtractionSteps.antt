-- What the loop of differences keeps.
use Rattle.std.proofs.Common.{if◌then◌else◌, ◌≡◌, ◌≢◌, ℕ, ◌+◌, ◌-◌, ◌*◌, ◌/◌, ◌%◌, ◌^◌, ◌<◌, Bool, true, false}
use Rattle.std.proofs.Common.{eqb, ℤ, pos, sym, ◌∙◌, ap, arith, subst, refl}
use Rattle.std.proofs.Math.Nat.{add-mod_left, add-mod_right, mod-eq_of_lt, mod_self, zero-mod}
use Rattle.std.specs.Int.Count.{count_trailing_zeros}
use Rattle.modular_word.proofs.Congruence.{mod_cancel}
use Rattle.modular_symbols.specs.Jacobi.{jacobi}
use Rattle.modular_symbols.specs.Kronecker.{signed}
use Rattle.modular_symbols.proofs.JacobiLaws.{jacobi-residue}
use Rattle.modular_symbols.proofs.TurnBits.{is_odd, odd-sum}
use Rattle.modular_symbols.proofs.TurnedSymbols.{Keeps, kept_last, signed-other, two_signs_compose}
use Rattle.modular_symbols.proofs.TwoPart.{SplitAt, trailing_zeros_below_width, split_opposite, Halved, halved_split}
use Rattle.modular_symbols.proofs.TwoPart.{Halved-of_shift}

-- numbers that leave the same remainder have the same symbol
jacobi-congruent : (x r n : ℕ) → 0 < n → x % n ≡ r % n → jacobi (pos x) n ≡ jacobi (pos r) n
jacobi-congruent x r n p e = grind (arith, jacobi-residue)

-- ---- the trailing zeros of the wrapped difference
-- v is the difference of a and n modulo the base, 2 ^ w
pub record Wraps (w base v a n : ℕ) : Type 0 where
  pub base_is : base ≡ 2 ^ w
  pub sum : (v + n) % base ≡ a
  pub fits : v < base
  pub a_fits : a < base
  pub n_fits : n < base

-- which isn't 0, so that it has fewer trailing zeros than bits
pub wrapped_zeros : (w b v a n s : ℕ) → Wraps w b v a n → a ≢ n → s ≡ count_trailing_zeros w v → s < w
wrapped_zeros w b v a n s r z e = search (arith, mod-eq_of_lt, trailing_zeros_below_width)

-- the first number is the greater one
pub halved_above : (w b v a n d s o : ℕ) → Wraps w b v a n → a ≢ n → d + n ≡ a
    → s ≡ count_trailing_zeros w v → o ≡ d / 2 ^ s
    → Halved d s o
halved_above w b v a n d s o r z e f g =
    let same : v ≡ d = search (arith, mod_cancel, mod-eq_of_lt) in
    Halved-of_shift w d s o (omega arith) (omega (arith, r.base_is)) (search arith) g

-- the second number is the greater one
pub halved_below : (w b v a n d s o : ℕ) → Wraps w b v a n → a ≢ n → d + a ≡ n
    → s ≡ count_trailing_zeros w v → o ≡ d / 2 ^ s
    → Halved d s o
halved_below w b v a n d s o r z e f g =
    let same : v ≡ b - d = search (arith, mod_cancel, add-mod_left, mod-eq_of_lt) in
    halved_split d s o
    (subst (λ k. SplitAt d k) (sym f) (split_opposite w v d (omega arith) (omega arith) (omega (arith, r.base_is)))) g

-- ---- one difference
-- 2 to the power s turns every symbol over y as p says
pub record TurnsBy (s y : ℕ) (p : Bool) : Type 0 where
  pub law : (k : ℕ) → jacobi (pos (k * 2 ^ s)) y ≡ signed p (jacobi (pos k) y)

-- a number congruent to 2 ^ s times o
pub jacobi-odd_part : (x d y s o : ℕ) (p : Bool) → TurnsBy s y p → Halved d s o → 0 < y → x % y ≡ d % y
    → jacobi (pos x) y ≡ signed p (jacobi (pos o) y)
jacobi-odd_part x d y s o p t h l e = jacobi-congruent x d y l e ∙ sym (ap (λ v. jacobi (pos v) y) h.whole) ∙ t.law o

-- a symbol that is that of the greater one of two odd numbers over the smaller one, y, turned as x says
jacobi-difference : (z : ℤ) (x q m y d s o : ℕ) → z ≡ signed (is_odd (x / 2)) (jacobi (pos m) y)
    → TurnsBy s y (is_odd q)
    → Halved d s o → y % 2 ≡ 1 → d + y ≡ m → z ≡ signed (is_odd (x / 2 + q)) (jacobi (pos o) y)
jacobi-difference z x q m y d s o e t h k f =
    let odd_part = jacobi-odd_part m d y s o (is_odd q) t h (omega arith) (search (arith, add-mod_right)) in
    search (arith, two_signs_compose, odd-sum)

-- the symbol of the greater one over the smaller one
pub jacobi-above : (l : Bool) (x q a n y d s o : ℕ) → l ≡ false → y ≡ n
    → jacobi (pos a) n ≡ signed (is_odd (x / 2)) (if l then jacobi (pos n) a else jacobi (pos a) n)
    → TurnsBy s y (is_odd q) → Halved d s o → n % 2 ≡ 1 → d + n ≡ a
    → jacobi (pos a) n ≡ signed (is_odd (x / 2 + q)) (jacobi (pos o) y)
jacobi-above l x q a n y d s o e b r t h k f =
    jacobi-difference (jacobi (pos a) n) _ _ _ _ _ _ _ (search arith)
    t h (ap (λ v. v % 2) b ∙ k) (ap (λ v. d + v) b ∙ f)

-- the symbol of the smaller one over the greater one, by the other way round
pub jacobi-below : (l : Bool) (x q a n y d s o : ℕ) → l ≡ true → y ≡ a
    → jacobi (pos a) n ≡ signed (is_odd (x / 2)) (if l then jacobi (pos n) a else jacobi (pos a) n)
    → TurnsBy s y (is_odd q) → Halved d s o → a % 2 ≡ 1 → d + a ≡ n
    → jacobi (pos a) n ≡ signed (is_odd (x / 2 + q)) (jacobi (pos o) y)
jacobi-below l x q a n y d s o e b r t h k f =
    jacobi-difference (jacobi (pos a) n) _ _ _ _ _ _ _ (search arith)
    t h (ap (λ v. v % 2) b ∙ k) (ap (λ v. d + v) b ∙ f)

-- the same with the turns before: t of them, u by this difference, and k together
pub turns_added : (x z : ℤ) (t u k : ℕ) → x ≡ signed (is_odd u) z → k % 2 ≡ (t + u) % 2
    → signed (is_odd t) x ≡ signed (is_odd k) z
turns_added x z t u k e f = search (arith, odd-sum, signed-other)

-- ---- two equal numbers
pub kept_equal_last : (w s : ℤ) (x y t b : ℕ) → Keeps w x y (is_odd t) → x ≡ y → b % 2 ≡ t % 2
    → (y ≡ 1 → s ≡ signed (is_odd b) (pos 1)) → (y ≢ 1 → s ≡ pos 0) → s ≡ w
kept_equal_last w s x y t b k e f one more =
    let zero : Keeps w 0 y (is_odd t) = search (arith, jacobi-congruent, zero-mod, mod_self) in
    kept_last _ _ _ _ (is_odd _) zero refl (λ h. one h ∙ ap (λ v. signed (eqb v 1) (pos 1)) f) more
