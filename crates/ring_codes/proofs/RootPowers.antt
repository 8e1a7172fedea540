-- Powers of a root: modulo an odd number their differences have inverses, and values at them are transforms.
use Rattle.ring_codes.proofs.Names.{◌≡◌, ◌+◌, ◌-◌, ◌*◌, ◌/◌, ◌%◌, ◌^◌, ◌<◌, ◌≤◌, ◌-ℤ◌, ◌∙◌, ℕ, zero, suc, pos, ap, sym}
use Rattle.ring_codes.proofs.Names.{arith, refl, inl, inr, mod-lt, cond, ltb, zero-mod, pow-zero, pow-suc, pow-add}
use Rattle.ring_codes.proofs.Names.{cases_lt, cases_eq, leb_tells, Congruent, HasInverse, mod_of_eq, mod_refl}
use Rattle.ring_codes.proofs.Names.{residue_of, mod_sym, mod_trans, mod_add, mod_mul, mod_pow, sum_below-congruent}
use Rattle.ring_codes.proofs.Names.{pow-mul, one-pow, polynomial_at, HaveUnitDifferences, polynomial-congruent}
use Rattle.ring_codes.proofs.Names.{has_both, residue, tail, sum_below, Suits, transform, IsEncoding, ArePowers}
use Rattle.ring_codes.proofs.NearestWords.{unit_alike}
use Rattle.ring_codes.proofs.NewtonForms.{turned_difference}
use Rattle.ring_codes.proofs.Congruences.{mod_of_combination, mod_times, mod_of_modulus, mod_of_residue}
use Rattle.ring_codes.proofs.Congruences.{mod_of_difference}

-- a, where h is a + 1, divides each power of h less 1
divides_power : (m a h n : ℕ) → Congruent m (a + 1) h → (q : ℕ) × Congruent m (a * q + 1) (h ^ n)
divides_power m a h zero is = grind (arith, pow-zero, mod_of_eq)
divides_power m a h (suc n) is =
    let (q, before) = divides_power m a h n is in (
      a * q + q + 1,
      mod_of_combination (mod_add (mod_times (a * q + 1) is) (mod_times h before))
          (omega (arith, pow-suc h n)),
    )

-- modulo an odd number 2 has an inverse, and so has what divides -2
two_divided : (m a q : ℕ) → m % 2 ≡ 1 → Congruent m (a * q + 2) 0 → HasInverse m a
two_divided m a q odd none =
    let half : ℕ = m / 2 in
    let whole : m ≡ 2 * half + 1 = omega (arith, odd) in
    let product : Congruent m (a * (q * half)) 1 =
    mod_of_combination (mod_add (mod_times half none) (mod_sym (mod_of_modulus 1))) (omega (arith, whole)) in (
      (q * half) % m,
      record {
        below = mod-lt (q * half) (omega (arith, whole));
        one = (mod_trans (mod_times a (residue_of (q * half))) product).same;
      },
    )

minus_one_squares_to_one : (m x : ℕ) → Congruent m (x + 1) 0 → Congruent m (x * x) 1
minus_one_squares_to_one m x is = mod_of_combination (mod_add (mod_times x is) (mod_sym is)) (omega arith)

-- an odd power of -1 is -1
odd_power : (m x d : ℕ) → Congruent m (x + 1) 0 → d % 2 ≡ 1 → Congruent m (x ^ d + 1) 0
odd_power m x d is odd =
    let h : ℕ = d / 2 in
    let whole : d ≡ suc (2 * h) = omega (arith, odd) in
    let square : x ^ 2 ≡ x * x = grind (arith, pow-suc, pow-zero) in
    let even : Congruent m (x ^ (2 * h)) 1 =
    rw (pow-mul x 2 h, square, ← one-pow h) (mod_pow h (minus_one_squares_to_one m x is)) in
    rw (whole, pow-suc x (2 * h)) (mod_of_combination (mod_add (mod_times x even) is) (omega arith))

-- g^d less 1, where g^(2^y) is -1: for odd d, and for each d
odd_less_one : (m y g d a : ℕ) → m % 2 ≡ 1 → Congruent m (g ^ (2 ^ y) + 1) 0 → d % 2 ≡ 1
    → Congruent m (a + 1) (g ^ d) → HasInverse m a
odd_less_one m y g d a odd is d_odd a_is =
    let (q, found) = divides_power m a (g ^ d) (2 ^ y) a_is in
    let swap : d * 2 ^ y ≡ 2 ^ y * d = omega arith in
    let power : (g ^ d) ^ (2 ^ y) ≡ (g ^ (2 ^ y)) ^ d =
    sym (pow-mul g d (2 ^ y)) ∙ ap (λ v. g ^ v) swap ∙ pow-mul g (2 ^ y) d in
    two_divided m a q odd (mod_of_combination (mod_add found (odd_power m (g ^ (2 ^ y)) d is d_odd))
    (omega (arith, power)))

power_less_one : (m y g d a : ℕ) → m % 2 ≡ 1 → Congruent m (g ^ (2 ^ y) + 1) 0 → 0 < d → d < 2 ^ suc y
    → Congruent m (a + 1) (g ^ d) → HasInverse m a
power_less_one m zero g d a odd is some few a_is =
    let two : 2 ^ 1 ≡ 2 = refl in
    odd_less_one m zero g d a odd is (let l : d ≡ 1 = omega (arith, two, some, few) in omega (arith, l)) a_is
power_less_one m (suc y) g d a odd is some few a_is = elim (cases_eq (d % 2) 1) [
  | inl d_odd ↦ odd_less_one m (suc y) g d a odd is d_odd a_is
  | inr even ↦
      let h : ℕ = d / 2 in
      let whole : 2 * h ≡ d = omega (arith, even) in
      let more = pow-suc 2 (suc y) in
      let power : (g ^ 2) ^ (2 ^ y) ≡ g ^ (2 ^ suc y) =
      (let s = pow-suc 2 y in let e : 2 * 2 ^ y ≡ 2 ^ suc y = omega (arith, s) in
      sym (pow-mul g 2 (2 ^ y)) ∙ ap (λ v. g ^ v) e) in
      power_less_one m y (g ^ 2) h a odd (mod_trans (mod_of_eq (ap (λ v. v + 1) power)) is) (omega (arith, whole, some))
      (omega (arith, whole, few, more))
      (mod_trans a_is (mod_of_eq (ap (λ v. g ^ v) (sym whole) ∙ pow-mul g 2 h)))
]

-- the same for powers below n, where g suits n
below_order : (m g n d a z : ℕ) → m % 2 ≡ 1 → Suits m g n → n ≡ 2 ^ z → 0 < d → d < n → Congruent m (a + 1) (g ^ d)
    → HasInverse m a
below_order m g n d a zero odd suits whole some few is =
    let one : 2 ^ 0 ≡ 1 = refl in absurd (omega (arith, whole, one, some, few))
below_order m g n d a (suc y) odd suits whole some few is =
    let s = pow-suc 2 y in
    let half : n / 2 ≡ 2 ^ y = omega (arith, whole, s) in
    grind (arith, pow-suc, zero-mod, power_less_one)

-- g and its powers have inverses
own_inverse : (m x : ℕ) → 0 < m → Congruent m (x * x) 1 → HasInverse m x
own_inverse m x positive is =
    (x % m, record { below = mod-lt x positive; one = (mod_trans (mod_mul (mod_refl x) (residue_of x)) is).same })

suitable_root_has_inverse : (m g n : ℕ) → 0 < m → 1 < n → Suits m g n → HasInverse m g
suitable_root_has_inverse m g n positive more suits =
    let h : ℕ = n / 2 in
    let some : h ≡ suc (h - 1) = omega (arith, more) in
    let turn : Congruent m (g ^ h + 1) 0 = record { same = suits.half_turn more ∙ sym (zero-mod _) } in
    ((has_both _ (g ^ (h - 1)) g).0 (rw (some, pow-suc g (h - 1)) at
    (own_inverse _ _ positive (minus_one_squares_to_one _ _ turn)))).1

power_of_unit_has_inverse : (m g j : ℕ) → 0 < m → HasInverse m g → HasInverse m (g ^ j)
power_of_unit_has_inverse m g zero positive unit = grind (arith, pow-zero, own_inverse, mod_of_eq)
power_of_unit_has_inverse m g (suc j) positive unit =
    rw (pow-suc g j) ((has_both m (g ^ j) g).1 (power_of_unit_has_inverse m g j positive unit, unit))

lower_unit : (m g n i j : ℕ) (x : ℕ → ℕ) → m % 2 ≡ 1 → Suits m g n → ArePowers m g n x → j < i → i < n
    → HasInverse m (residue m (pos (x i) -ℤ pos (x j)))
lower_unit m g n i j x odd suits powers before within =
    let positive : 0 < m = omega (arith, odd) in
    let d : ℕ = i - j in
    let a : ℕ = residue m (pos (g ^ d) -ℤ pos 1) in
    let at_a : Congruent m (a + 1) (g ^ d) = mod_of_difference 1 positive refl in
    let at_u : Congruent m (residue m (pos (x i) -ℤ pos (x j)) + x j) (x i) = mod_of_difference (x j) positive refl in
    let whole : j + d ≡ i = omega (arith, before) in
    let power : g ^ j * g ^ d ≡ g ^ i = sym (pow-add g j d) ∙ ap (λ v. g ^ v) whole in
    let same : Congruent m (residue m (pos (x i) -ℤ pos (x j))) (g ^ j * a) =
    mod_of_combination (mod_add at_u (mod_add (mod_sym (mod_of_residue (powers.power j (omega arith))))
    (mod_add (mod_of_residue (powers.power i within)) (mod_times (g ^ j) (mod_sym at_a))))) (omega (arith, power)) in
    unit_alike m (g ^ j * a) _ (mod_sym same)
    ((has_both m (g ^ j) a).1 (
      power_of_unit_has_inverse m g j positive (suitable_root_has_inverse m g n positive (omega arith) suits),
      below_order m g n d a suits.power_of_two.0 odd suits suits.power_of_two.1 (omega arith) (omega arith) at_a,
    ))

-- the points fit
pub powers_fit : (m g n : ℕ) (x : ℕ → ℕ) → m % 2 ≡ 1 → Suits m g n → ArePowers m g n x → HaveUnitDifferences m n x
powers_fit m g n x odd suits powers = record {
  unit = λ i j l k other. elim (cases_lt j i) [
    | inl b ↦ lower_unit m g n i j x odd suits powers b l
    | inr b ↦ turned_difference m (x j) (x i) (lower_unit m g n j i x odd suits powers (omega arith) k)
  ];
}

-- values at the powers are the transform of the coefficients, followed by zeros
pub value_by_transform : (m g k n j : ℕ) (points message x : ℕ → ℕ) → k ≤ n → ArePowers m g n points
    → ((i : ℕ) → i < k → x i ≡ message i) → ((i : ℕ) → k ≤ i → i < n → x i ≡ 0) → j < n
    → transform m g n x j ≡ polynomial_at k message (points j) % m
value_by_transform m g k n j points message x few powers same none within =
    let d : ℕ = n - k in
    let whole : n ≡ k + d = omega (arith, few) in
    let f : ℕ → ℕ = λ i. x i * g ^ (i * j) in
    let short : sum_below n f ≡ sum_below k f = grind (arith, tail) in
    let point : Congruent m (g ^ j) (points j) = grind (arith, mod_trans, mod_sym, residue_of, mod_of_eq) in
    let each : (i : ℕ) → i < k → Congruent m (f i) (message i * points j ^ i) =
    λ i l. let swap : i * j ≡ j * i = omega arith in
    rw (same i l, swap, pow-mul g j i) (mod_times (message i) (mod_pow i point)) in
    rw short ((sum_below-congruent k f (λ i. message i * points j ^ i) each).same)

pub encoding_by_transform : (m g k n : ℕ) (points message : ℕ → ℕ) → k ≤ n → ArePowers m g n points
    → ((i : ℕ) → k ≤ i → i < n → message i ≡ 0) → IsEncoding m k n points message (transform m g n message)
encoding_by_transform m g k n points message few powers none = grind (arith, value_by_transform)

-- the number of the points has an inverse
pub length_has_inverse_modulo_odd : (m g n : ℕ) → m % 2 ≡ 1 → Suits m g n → HasInverse m n
length_has_inverse_modulo_odd m g n odd suits =
    let positive : 0 < m = omega (arith, odd) in
    rw suits.power_of_two.1 (power_of_unit_has_inverse m 2 suits.power_of_two.0 positive
    (two_divided m 2 (m - 1) odd (mod_of_combination (mod_of_modulus 2) (omega (arith, positive)))))

-- a word is of a message exactly where its coefficients from number k on are 0: those whose transform it is
pub word_of_coefficients : (m g k n : ℕ) (points c w : ℕ → ℕ) → k ≤ n → ArePowers m g n points
    → ((j : ℕ) → j < n → transform m g n c j ≡ w j) → ((i : ℕ) → k ≤ i → i < n → c i ≡ 0) → IsEncoding m k n points c w
word_of_coefficients m g k n points c w few powers is none = record {
  symbol = λ j l. sym (is j l) ∙ (encoding_by_transform m g k n points c few powers none).symbol j l;
}

-- the coefficients of a polynomial, followed by zeros
zero_padded_coefficients : ℕ → (ℕ → ℕ) → ℕ → ℕ
zero_padded_coefficients k c i = cond (ltb i k) (c i) 0

padded_within : (k : ℕ) (c : ℕ → ℕ) (i : ℕ) → i < k → zero_padded_coefficients k c i ≡ c i
unfolding zero_padded_coefficients
padded_within k c i l = elim (leb_tells (suc i) k) [ inl p ↦ rw p.0 refl | inr p ↦ absurd (omega (arith, p.1, l)) ]

padded_past : (k : ℕ) (c : ℕ → ℕ) (i : ℕ) → k ≤ i → zero_padded_coefficients k c i ≡ 0
unfolding zero_padded_coefficients
padded_past k c i b = elim (leb_tells (suc i) k) [ inl p ↦ absurd (omega (arith, p.1, b)) | inr p ↦ rw p.0 refl ]

pub coefficients_end : (m g k n : ℕ) (points message c w : ℕ → ℕ) → k ≤ n → ArePowers m g n points
    → IsEncoding m k n points message w
    → ((x : ℕ → ℕ) → ((j : ℕ) → j < n → transform m g n x j ≡ w j) → (i : ℕ) → i < n → c i ≡ x i % m)
    → (i : ℕ) → k ≤ i → i < n → c i ≡ 0
coefficients_end m g k n points message c w few powers is undone i past within =
    undone (zero_padded_coefficients k message)
    (λ j l. value_by_transform m g k n j points message (zero_padded_coefficients k message) few powers
    (padded_within k message)
    (λ t b d. padded_past k message t b) l ∙ sym (is.symbol j l)) i within
    ∙ ap (λ v. v % m) (padded_past k message i past) ∙ zero-mod m

-- the same coefficients have the same word
pub encoding_alike : (m k n : ℕ) (points a b w : ℕ → ℕ) → ((i : ℕ) → i < k → a i ≡ b i) → IsEncoding m k n points a w
    → IsEncoding m k n points b w
encoding_alike m k n points a b w same is = grind (arith, polynomial-congruent, mod_of_eq, mod_refl)
