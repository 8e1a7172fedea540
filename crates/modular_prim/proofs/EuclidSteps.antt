-- The steps of Euclid's loop with the magnitudes of the coefficients, whose signs alternate.
use Rattle.std.proofs.Common.{◌≡◌, ℕ, Bool, true, false, not, ◌+◌, ◌*◌, ◌/◌, ◌%◌}
use Rattle.std.proofs.Common.{◌<◌, ◌≤◌, pos, neg_ℤ, sym, refl, ap, ◌∙◌, subst, arith}
use Rattle.std.specs.Int.{IsGcd}
use Rattle.std.proofs.Math.Nat.{mod-lt, mod-eq_of_lt, div-add-mod, mod-add-mod, add-mul-mod_self_left}
use Rattle.std.proofs.Math.Nat.{mod-mod_of_dvd, le_of_dvd, mul-le-mul_left, mul-le-mul_right}
use Rattle.std.proofs.lemmas.Nat.{mul-mod_first}
use Rattle.std.proofs.lemmas.Nat.Gcd.{IsGcd-from_mod, IsGcd-from_zero, mod-eq-zero_of_dvd}
use Rattle.modular_word.proofs.ResidueLemmas.{residue_neg}
use Rattle.modular_word.specs.Inverses.{IsInverse}
use Rattle.modular_word.specs.Residues.{residue}

-- t * a, with its sign, leaves r modulo m
abbrev pub Leaves : ℕ → ℕ → Bool → ℕ → ℕ → Type 0
Leaves m a true t r = (k : ℕ) × (t * a ≡ r + m * k)
Leaves m a false t r = (k : ℕ) × (t * a + r ≡ m * k)

-- what Euclid's loop keeps of the remainders and their coefficients
pub record Euclid (a m last_r r last_t t : ℕ) (odd : Bool) : Type 0 where
  pub falling : r < last_r
  pub whole : last_t * r + t * last_r ≡ m
  pub last_below : last_t < m
  pub positive : 0 < t
  pub last : Leaves m a odd last_t last_r
  pub current : Leaves m a (not odd) t r
  pub common : (g : ℕ) → IsGcd last_r r g → IsGcd m (a % m) g

pub euclid_start : (a m r z o : ℕ) → 1 ≤ m → r ≡ a % m → z ≡ 0 → o ≡ 1 → Euclid a m m r z o false
euclid_start a m r z o h er ez eo =
    let zr : z * r ≡ 0 * r = ap (λ n. n * r) ez in
    let om : o * m ≡ 1 * m = ap (λ n. n * m) eo in
    let za : z * a ≡ 0 * a = ap (λ n. n * a) ez in
    let oa : o * a ≡ 1 * a = ap (λ n. n * a) eo in
    record {
      falling = omega (arith, mod-lt a {m = m} h);
      whole = omega arith;
      last_below = omega arith;
      positive = omega arith;
      last = (1, omega arith);
      current = (a / m, omega arith);
      common = λ g d. let P : ℕ → Type 0 = λ n. IsGcd m n g in subst P er d;
    }

-- the products of a step and the next coefficient are at most m
euclid_fits : (a m last_r r last_t t q : ℕ) (odd : Bool) → Euclid a m last_r r last_t t odd → 0 < r → q ≡ last_r / r
    → (q * r ≤ last_r) × (last_t + q * t ≤ m) × (last_r ≤ m)
euclid_fits a m last_r r last_t t q odd s hr eq = grind (arith, div-add-mod, mul-le-mul_left, mul-le-mul_right)

leaves_next : (m a q t r last_t last_r rest : ℕ) (odd : Bool) → rest + q * r ≡ last_r
    → Leaves m a odd last_t last_r → Leaves m a (not odd) t r → Leaves m a odd (last_t + q * t) rest
leaves_next m a q t r last_t last_r rest true e l c =
    let cq : q * (t * a + r) ≡ q * (m * c.0) = ap (λ n. q * n) c.1 in
    (l.0 + q * c.0, omega (arith, l.1))
leaves_next m a q t r last_t last_r rest false e l c =
    let cq : q * (t * a) ≡ q * (r + m * c.0) = ap (λ n. q * n) c.1 in
    (l.0 + q * c.0, omega (arith, l.1))

leaves_twice : (m a t r : ℕ) (odd : Bool) → Leaves m a odd t r → Leaves m a (not (not odd)) t r
leaves_twice m a t r true l = l
leaves_twice m a t r false l = l

-- what a step leaves is the remainder
rest_is_remainder : (u v q rest : ℕ) → q ≡ u / v → rest + q * v ≡ u → rest ≡ u % v
rest_is_remainder u v q rest e f = grind (arith, div-add-mod)

euclid_step : (a m last_r r last_t t next q rest : ℕ) (odd : Bool) → Euclid a m last_r r last_t t odd
    → 0 < r → q ≡ last_r / r → rest + q * r ≡ last_r → next ≡ last_t + q * t
    → Euclid a m r rest t next (not odd)
euclid_step a m last_r r last_t t next q rest odd s hr eq erest enext =
    let left : rest ≡ last_r % r = rest_is_remainder _ _ _ _ eq erest in
    let grows : 1 * t ≤ q * t = mul-le-mul_right _ (grind (arith, mul-le-mul_right, mod-lt)) in
    let two : t * 2 ≤ t * last_r = mul-le-mul_left _ (let l : 2 ≤ last_r = omega (arith, s.falling) in l) in
    let nr : next * r ≡ (last_t + q * t) * r = ap (λ n. n * r) enext in
    let tr : t * (rest + q * r) ≡ t * last_r = ap (λ n. t * n) erest in
    record {
      falling = omega (arith, mod-lt last_r {m = r} hr);
      whole = omega (arith, s.whole);
      last_below = omega (arith, s.whole, s.positive);
      positive = omega (arith, s.positive);
      last = s.current;
      current = grind (arith, Leaves, leaves_twice, leaves_next);
      common = λ g h. s.common g (IsGcd-from_mod last_r r g (let P : ℕ → Type 0 = λ n. IsGcd r n g in subst P left h));
    }

-- the next coefficient is at most m
pub next_fits : {a m last_r r last_t t : ℕ} {odd : Bool} → Euclid a m last_r r last_t t odd → 0 < r
    → last_t + last_r / r * t ≤ m
next_fits {a} {m} {last_r} {r} {last_t} {t} {odd} s hr =
    (euclid_fits a m last_r r last_t t (last_r / r) odd s hr refl).1

-- the loop keeps its numbers over a division
pub division_step_keeps_euclid : {a m last_r r last_t t next rest : ℕ} {odd : Bool} → Euclid a m last_r r last_t t odd
    → 0 < r
    → rest ≡ last_r % r → next ≡ last_t + last_r / r * t → Euclid a m r rest t next (not odd)
division_step_keeps_euclid {a} {m} {last_r} {r} {last_t} {t} {next} {rest} {odd} s hr left is =
    euclid_step a m last_r r last_t t next (last_r / r) rest odd s hr refl (omega arith) is

-- at the end, where the last remainder is 1, the coefficient of a positive sign is the inverse
pub euclid_found : (a m last_r r last_t t : ℕ) (odd : Bool) → Euclid a m last_r r last_t t odd → odd ≡ true → last_r ≤ 1
    → IsInverse m a last_t
euclid_found a m last_r r last_t t false s o h = absurd (cc)
euclid_found a m last_r r last_t t true s o h = grind (arith, add-mul-mod_self_left)

-- the negative of a number below m, with the number, makes a multiple of m
with_negative : (m v x : ℕ) → v < m → x ≡ residue m (neg_ℤ (pos v)) → (x < m) × ((j : ℕ) × (x + v ≡ m * j))
with_negative m v x h e = grind (arith, residue_neg, neg_ℤ, mod-eq_of_lt)

-- at the end, where the last remainder is 1, the negative of the coefficient of a negative sign is the inverse
pub euclid_found_negative : (a m last_r r last_t t x : ℕ) (odd : Bool)
    → Euclid a m last_r r last_t t odd → odd ≡ false → last_r ≤ 1
    → x ≡ residue m (neg_ℤ (pos last_t)) → IsInverse m a x
euclid_found_negative a m last_r r last_t t x true s o h ex = absurd (cc)
euclid_found_negative a m last_r r last_t t x false s o h ex =
    let n = with_negative _ _ _ s.last_below ex in
    let j = n.1.0 in
    let f : a * (x + last_t) ≡ a * (m * j) = ap (λ v. a * v) n.1.1 in
    let g : a * x + m * s.last.0 ≡ 1 + m * (a * j) = omega arith in
    record {
      below = n.0;
      one = sym (add-mul-mod_self_left _ _ s.last.0) ∙ ap (λ v. v % m) g ∙ add-mul-mod_self_left _ _ (a * j);
    }

-- at the end there is no inverse, where the last remainder is above 1
pub euclid_none : (a m last_r r last_t t x : ℕ) (odd : Bool) → Euclid a m last_r r last_t t odd → r ≡ 0 → 1 < last_r
    → IsInverse m a x → ⊥
euclid_none a m last_r r last_t t x odd s er h i =
    let G = last_r in
    let common : IsGcd m (a % m) G = s.common G (IsGcd-from_zero G _ er) in
    let a0 : a % G ≡ 0 = sym (mod-mod_of_dvd G _ common.0) ∙ mod-eq-zero_of_dvd G common.1 in
    let k = (a * x) / m in
    let left : (a * x) % G ≡ 0 =
    sym (mul-mod_first _ _ G) ∙ ap (λ n. (n * x) % G) a0
    ∙ ap (λ n. n % G) (let z : 0 * x ≡ 0 = omega arith in z) ∙ mod-eq_of_lt (let p : 0 < G = omega arith in p) in
    let mk : (m * k) % G ≡ 0 =
    sym (mul-mod_first _ k G) ∙ ap (λ n. (n * k) % G) (mod-eq-zero_of_dvd G common.0)
    ∙ ap (λ n. n % G) (let z : 0 * k ≡ 0 = omega arith in z) ∙ mod-eq_of_lt (let p : 0 < G = omega arith in p) in
    let big : 1 < m = omega (arith, le_of_dvd {n = m} (let p : 0 < m = omega (arith, s.last_below) in p) common.0) in
    let one : (a * x) % m ≡ 1 = i.one ∙ mod-eq_of_lt big in
    let right : (a * x) % G ≡ 1 =
    ap (λ n. n % G) (omega arith) ∙ sym (mod-add-mod (m * k) G _) ∙ ap (λ n. (n + 1) % G) mk ∙ mod-eq_of_lt h in
    absurd (omega arith)
