-- Numbers with two remainders, for moduli m = g·u and n = g·v whose greatest common divisor is g.
use Rattle.std.proofs.Common.{◌≡◌, ℕ, ◌+◌, ◌*◌, ◌/◌, ◌%◌, ◌<◌, ◌≤◌, ◌↔◌, arith, sym, ap, ◌∙◌}
use Rattle.std.proofs.Math.Nat.{mod-lt, div-add-mod, add-mul-mod_self_left, mod-eq_of_lt, mod-zero, mod-mod}
use Rattle.std.proofs.Math.Nat.{mul-mod_right, mul-le-mul_left}
use Rattle.std.specs.Int.{IsGcd}
use Rattle.std.proofs.lemmas.Nat.Gcd.{le_of_dvd, dvd_of_mod-eq-zero, mod-eq-zero_of_dvd}
use Rattle.std.proofs.lemmas.Bool.{cases_lt}
use Rattle.num_modular.specs.Congruence.{Congruent}
use Rattle.num_modular.specs.Divisors.{IsGreatestCommonDivisor}
use Rattle.num_modular.specs.Inverses.{HasInverse}
use Rattle.num_modular.specs.NumberLaws.{mod_of_multiple, mod_add_cancel, mod_add, mod_refl, factor_cancel}
use Rattle.num_modular.specs.SystemLaws.{spread, gathered, within}
use Rattle.residue_numbers.specs.Combinations.{AreParts, IsLeastCommonMultiple, IsCommon, IsCombination}

-- a factor with an inverse cancels, as `congruence_laws` states it
abbrev pub Quotients : Type 0
Quotients = (m a b c j : ℕ) → Congruent m (c * j) 1 → Congruent m (a * c) (b * c) → Congruent m a b

-- what is congruent modulo a multiple of g is congruent modulo g
to_divisor : (g q n a b : ℕ) → n ≡ g * q → a % n ≡ b % n → a % g ≡ b % g
to_divisor g q n a b e h = sym (mod_of_multiple g q a) ∙ ap (λ w. w % g) (rw e at h) ∙ mod_of_multiple g q b

-- a divisor of a positive number is positive
divisor_of_positive_is_positive : (d n : ℕ) → 0 < n → n % d ≡ 0 → 0 < d
divisor_of_positive_is_positive d n above divides = search (arith, cases_lt, mod-zero)

-- the greatest common divisor that Euclid's algorithm leaves
pub euclid_is : (m n d g : ℕ) → 0 < n → IsGcd m n d → IsGreatestCommonDivisor m n g → d ≡ g
euclid_is m n d g above is greatest =
    search (arith, mod-eq-zero_of_dvd, le_of_dvd, divisor_of_positive_is_positive, dvd_of_mod-eq-zero)

-- a common divisor d of the parts makes g·d one of the numbers
at_most_one : (g d : ℕ) → 0 < g → g * d ≤ g → 0 < d → d ≡ 1
at_most_one g d positive most above = search (arith, cases_lt, mul-le-mul_left)

multiple_of_both : (g d m u : ℕ) → m ≡ g * u → u % d ≡ 0 → m % (g * d) ≡ 0
multiple_of_both g d m u is divides =
    let parts : u ≡ d * (u / d) = omega (arith, divides) in
    let e = ap (λ k. g * k) parts in
    let whole : m ≡ g * d * (u / d) = omega (arith, is, e) in
    ap (λ k. k % (g * d)) whole ∙ mul-mod_right (g * d) (u / d)

-- the parts by the greatest common divisor
pub parts_of : (m n g : ℕ) → 0 < n → IsGreatestCommonDivisor m n g → AreParts m n g
parts_of m n g above greatest =
    let first : m ≡ g * (m / g) = let e = greatest.first in omega (arith, e) in
    let second : n ≡ g * (n / g) = let e = greatest.second in omega (arith, e) in
    let positive = divisor_of_positive_is_positive g n above greatest.second in
    let step : 0 < n / g = grind (arith, cases_lt) in
    record {
      positive = positive;
      first = first;
      second = second;
      step = step;
      coprime = record {
        only_one = λ d h k. at_most_one g d positive (greatest.greatest (g * d)
            (multiple_of_both g d m (m / g) first h) (multiple_of_both g d n (n / g) second k))
            (divisor_of_positive_is_positive d (n / g) step k);
      };
    }

-- a factor of both numbers and of the modulus
scaled_congruent : (g v x y : ℕ) → x % v ≡ y % v → (g * x) % (g * v) ≡ (g * y) % (g * v)
scaled_congruent g v x y e =
    let f = ap (λ w. g * w) (spread v x y e) in gathered (g * v) (g * x) (g * y) (y / v) (x / v) (omega (arith, f))

congruent_of_scaled : (g v x y : ℕ) → 0 < g → (g * x) % (g * v) ≡ (g * y) % (g * v) → x % v ≡ y % v
congruent_of_scaled g v x y positive e =
    let f = spread (g * v) (g * x) (g * y) e in
    let p = g * y / (g * v) in let q = g * x / (g * v) in
    gathered v x y p q (factor_cancel g (x + v * p) (y + v * q) positive (omega (arith, f)))

module _ (m n g u v : ℕ) (m_is : m ≡ g * u) (n_is : n ≡ g * v) where
  -- the number with the steps t is congruent to b modulo n
  solution_is_common : (a b s k t : ℕ) → s ≡ g * k → (u * t) % v ≡ k % v → (s + a) % n ≡ b % n → (a + m * t) % n ≡ b % n
  solution_is_common a b s k t s_is steps difference =
      let turn : a + m * t ≡ g * (u * t) + a = let e = ap (λ w. w * t) m_is in omega (arith, e) in
      let same : (g * (u * t)) % n ≡ s % n = rw (n_is, s_is) (scaled_congruent g v (u * t) k steps) in
      ap (λ w. w % n) turn ∙ (mod_add record { same = same } (mod_refl a)).same ∙ difference

  module _ (quotients : Quotients) (positive : 0 < g) (unit : HasInverse v u) where
    -- and the only one below m·v
    only_one : (a b t y : ℕ) → a < m → t < v → (a + m * t) % n ≡ b % n → y % m ≡ a → y % n ≡ b % n
        → y % (m * v) ≡ a + m * t
    only_one a b t y a_below t_below is first second =
        let q : ℕ = y / m in let x = a + m * t in
        let e = ap (λ w. w * q) m_is in let f = ap (λ w. w * t) m_is in
        let y_is : g * (q * u) + a ≡ y = let parts = div-add-mod y m in omega (arith, parts, first, e) in
        let x_is : x ≡ g * (t * u) + a = omega (arith, f) in
        let same : Congruent n (g * (q * u)) (g * (t * u)) = mod_add_cancel a record {
          same = ap (λ w. w % n) y_is ∙ second ∙ sym is ∙ ap (λ w. w % n) x_is;
        } in
        let steps = congruent_of_scaled g v (q * u) (t * u) positive (rw n_is at same.same) in
        let digit = (quotients v q t u unit.0 record { same = unit.1.one } record { same = steps }).same
        ∙ mod-eq_of_lt t_below in
        let along : m * (v * (q / v) + t) ≡ m * q = ap (λ w. m * w) (omega (arith, digit)) in
        let sum : y ≡ x + m * v * (q / v) = omega (arith, y_is, e, along) in
        ap (λ k. k % (m * v)) sum ∙ add-mul-mod_self_left x (m * v) (q / v)
        ∙ mod-eq_of_lt (within m v a t a_below t_below)

    -- the least common multiple
    multiple_is : 0 < m → 0 < v → IsLeastCommonMultiple m n (m * v)
    multiple_is above one = record {
      positive = let e = within m v 0 0 above one in omega (arith, e);
      first = mul-mod_right m v;
      second =
          let e : m * v ≡ n * u = let f = ap (λ w. w * v) m_is in let h = ap (λ w. w * u) n_is in omega (arith, f, h) in
          ap (λ k. k % n) e ∙ mul-mod_right n u;
      least = λ k first second.
          let zero_is : 0 + m * 0 ≡ 0 = omega arith in let none : 0 ≡ 0 % n = omega arith in
          only_one 0 0 0 k above one (ap (λ w. w % n) zero_is) first (second ∙ none) ∙ zero_is;
    }

-- the combination
pub combination_is : Quotients → (m n g a b s t : ℕ) → AreParts m n g → 0 < m → HasInverse (n / g) (m / g) → s % g ≡ 0
    → (m / g * t) % (n / g) ≡ (s / g) % (n / g) → t < n / g → (s + a % m) % n ≡ b % n
    → IsCombination a m b n (a % m + m * t) (m * (n / g))
combination_is quotients m n g a b s t parts above unit divides steps below difference =
    let u = m / g in let v = n / g in let reduced = mod-lt a above in
    let s_is : s ≡ g * (s / g) = omega (arith, divides) in
    let is = solution_is_common m n g u v parts.first parts.second (a % m) b s (s / g) t s_is steps difference in
    record {
      multiple = multiple_is m n g u v parts.first parts.second quotients parts.positive unit above parts.step;
      below = within m v (a % m) t reduced below;
      common = record { first = add-mul-mod_self_left (a % m) m t ∙ mod-mod a m; second = is };
      only = λ y common.
          only_one m n g u v parts.first parts.second quotients parts.positive unit (a % m) b t y reduced below is
          common.first common.second;
    }

-- a multiple of g adds nothing modulo g
adds_nothing : (g s w : ℕ) → (s % g ≡ 0) ↔ ((s + w) % g ≡ w % g)
adds_nothing g s w = let none : 0 ≡ 0 % g = omega arith in (
  λ h. (mod_add record { same = h ∙ none } (mod_refl w)).same ∙ ap (λ k. k % g) (omega arith),
  λ h. (mod_add_cancel {m = g} {a = s} {b = 0} w record { same = h ∙ ap (λ k. k % g) (omega arith) }).same ∙ sym none,
)

-- g divides the difference s exactly where a and b are congruent modulo g
pub divides_exactly : (m n g k a b s : ℕ) → g ≡ k → AreParts m n g → (s + a % m) % n ≡ b % n
    → (s % g ≡ 0) ↔ (a % k ≡ b % k)
divides_exactly m n g k a b s same parts difference = rw (← same) (
    let reduced : a % m % g ≡ a % g = to_divisor g (m / g) m (a % m) a parts.first (mod-mod a m) in
    let sum : (s + a % m) % g ≡ b % g = to_divisor g (n / g) n (s + a % m) b parts.second difference in
    let nothing = adds_nothing g s (a % m) in
    (λ divides. sym reduced ∙ sym (nothing.0 divides) ∙ sum, λ same. nothing.1 (sum ∙ sym same ∙ sym reduced)))

-- numbers that have a common one are congruent modulo g
pub same_of_common : (m n g a b y : ℕ) → AreParts m n g → IsCommon a m b n y → a % g ≡ b % g
same_of_common m n g a b y parts common =
    sym (to_divisor g (m / g) m y a parts.first common.first) ∙ to_divisor g (n / g) n y b parts.second common.second
