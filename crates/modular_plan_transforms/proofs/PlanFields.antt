-- A plan as one value: what its fields say of its table, a root that is tested by its half turn, and shorter plans.
use Rattle.std.proofs.Common.{◌≡◌, ℕ, suc, zero, ◌+◌, ◌-◌, ◌*◌, ◌/◌, ◌%◌, ◌^◌, ◌<◌, ◌≤◌, ◌↔◌, List, All, length, get_or}
use Rattle.std.proofs.Common.{map, take}
use Rattle.std.proofs.Common.{refl, sym, ap, ◌∙◌, arith, subst}
use Rattle.std.proofs.Math.Nat.{two-pow-succ, div_self, mod-lt, mod-eq_of_lt, mod-mod, mod_self}
use Rattle.std.proofs.Math.Nat.{mul_assoc, mul-div_cancel_left}
use Rattle.std.proofs.Math.Numerals.{add-one}
use Rattle.std.proofs.lemmas.List.{take-map, get_or-take, length-take-le}
use Rattle.std.proofs.lemmas.Nat.{pow-add, pow_pos, mul-mod_first, mul-mod_second}
use Rattle.std.specs.Int.{IsPowerOfTwo}
use Rattle.modular_word.proofs.Congruence.{mod_of_eq, mod_trans, mod_sym, mod_mul, mod_add, mod_refl, residue_of}
use Rattle.modular_word.proofs.Divisors.{remainder_of_multiple_is_zero, mod_divides}
use Rattle.modular_word.proofs.Powers.{pow-one}
use Rattle.modular_word.specs.Congruence.{Congruent}
use Rattle.modular_word.specs.Inverses.{HasInverse, IsInverse}
use Rattle.modular_transform.proofs.StageLemmas.{root_squared}
use Rattle.modular_transform.specs.Orders.{bits_reversed}
use Rattle.modular_transform.specs.Transforms.{Suits, transform}
use Rattle.modular_plan_passes.proofs.Shorter.{first_entries}
use Rattle.modular_plan_passes.specs.Plans.{numbers, AreTwiddles}
use Rattle.modular_plan_transforms.proofs.NaturalOrder.{no_more_bits}

-- the table of a plan, by the fields
pub twiddles_of : {m g bits count : ℕ} {w : ℕ → ℕ} → 2 * count ≡ 2 ^ bits → (g ^ count + 1) % m ≡ 0
    → ((k : ℕ) → k < count → w k ≡ g ^ bits_reversed (bits - 1) k % m) → AreTwiddles m g bits count w
twiddles_of {m} {g} {bits} {count} whole turn entry = grind arith

-- and the half turn of a root, by the table
pub turn_of : {m g bits count : ℕ} {w : ℕ → ℕ} → 2 * count ≡ 2 ^ bits → AreTwiddles m g bits count w
    → (g ^ count + 1) % m ≡ 0
turn_of {m} {g} {bits} whole twiddles = grind (arith, pow_pos)

-- the root for all entries of a plan is the root itself
pub transform_by_root_itself : (m g bits n : ℕ) (x : ℕ → ℕ) (j : ℕ) → n ≡ 2 ^ bits
    → transform m (g ^ (2 ^ bits / n)) n x j ≡ transform m g n x j
transform_by_root_itself m g bits n x j whole = grind (arith, div_self, pow_pos, pow-one)

-- twice a power of two
pub twice_power_of_two : (z n : ℕ) → n ≡ 2 ^ z → 2 * n ≡ 2 ^ (z + 1)
twice_power_of_two z n e = omega (arith, e, two-pow-succ z, ap (λ v. 2 ^ v) (add-one z))

pub square_of_power : (m g t p q : ℕ) → p ≡ g ^ (2 ^ t) % m → q ≡ (p * p) % m → q ≡ g ^ (2 ^ (t + 1)) % m
square_of_power m g t p q is square = grind (arith, root_squared g t, mul-mod_first, mul-mod_second)

pub field_residue_below_modulus : (m p v : ℕ) → 0 < m → p ≡ v % m → p < m
field_residue_below_modulus m p v some e = subst (λ n. n < m) (sym e) (mod-lt v some)

-- g suits 2 * n entries where its power p to the exponent n is -1
pub suits_by_turn : (m g n p : ℕ) → 0 < m → IsPowerOfTwo n → p ≡ g ^ n % m → (p + 1 ≡ m) ↔ Suits m g (2 * n)
suits_by_turn m g n p some power is =
    let halved : 2 * n / 2 ≡ n = omega arith in
    let same : (p + 1) % m ≡ (g ^ n + 1) % m =
    (mod_add (record { same = ap (λ v. v % m) is ∙ mod-mod (g ^ n) m }) (mod_refl 1)).same in
    let least = pow_pos power.0 in (
      λ (e : p + 1 ≡ m). record {
        power_of_two = (power.0 + 1, twice_power_of_two power.0 n power.1);
        half_turn = λ l. grind (arith, halved, same, mod_self);
      },
      λ (suits : Suits m g (2 * n)). grind (
        arith,
        mod-eq_of_lt,
        field_residue_below_modulus m p (g ^ n) some is,
        rw halved at (suits.half_turn (omega (arith, power.1, least))),
      ),
    )

-- half of the inverse of 2^t
pub half_inverse : (m t p q : ℕ) → IsInverse m (2 ^ t) p → q < m → 2 * q % m ≡ p → IsInverse m (2 ^ (t + 1)) q
half_inverse m t p q inverse below twice =
    let same : Congruent m (2 * q) p = mod_trans (mod_sym (residue_of (2 * q))) (mod_of_eq twice) in
    record {
      below = below;
      one = (mod_trans (mod_of_eq (rw (sym (twice_power_of_two t (2 ^ t) refl)) (omega arith)))
          (mod_mul (mod_refl (2 ^ t)) same)).same ∙ inverse.one;
    }

-- what a shorter plan needs: how often its length is in the length of this one
pub record IsShorter (bits n count y d : ℕ) : Type 0 where
  pub bits_is : bits ≡ y + d
  pub half : 2 * (n / 2) ≡ n
  pub within : n / 2 ≤ count
  pub quotient : count / (n / 2) ≡ 2 ^ d
  pub root : 2 ^ bits / n ≡ 2 ^ d
  pub first : 2 ^ y / 2 ≡ n / 2

pub twice_half : (y n : ℕ) → n ≡ 2 ^ y → 2 ≤ n → 2 * (n / 2) ≡ n
twice_half zero n is some = let one : 2 ^ 0 ≡ 1 = refl in absurd (omega (arith, is, some, one))
twice_half (suc y) n is some = let two = two-pow-succ y in omega (arith, is, two)

-- modulo an twice_half number, a power of two above 1 has no inverse
pub no_inverse_modulo_even : (m n k : ℕ) → 0 < m → m % 2 ≡ 0 → n ≡ 2 ^ k → 2 ≤ n → HasInverse m n → ⊥
no_inverse_modulo_even m n k some halves is more h =
    let twice : n * h.0 ≡ 2 * (n / 2 * h.0) =
    ap (λ v. v * h.0) (sym (twice_half k n is more)) ∙ mul_assoc 2 (n / 2) h.0 in
    let product = mod_divides 2 (n * h.0) m halves (remainder_of_multiple_is_zero 2 (n * h.0) (n / 2 * h.0) twice) in
    let one : 1 % m ≡ 1 = mod-eq_of_lt (omega (arith, some, halves)) in
    omega (arith, product, h.1.one, one)

pub is_shorter : (bits n count y : ℕ) → n ≡ 2 ^ y → 2 ≤ n → n ≤ 2 ^ bits → 2 * count ≡ 2 ^ bits
    → IsShorter bits n count y (bits - y)
is_shorter bits n count y is some most whole =
    let twice = twice_half y n is some in
    let half : count ≡ 2 ^ bits / 2 = omega (arith, whole) in
    let within : n / 2 ≤ count = omega (arith, most, whole, twice) in
    let no_more = no_more_bits y bits n count is half within in
    let d = bits - y in
    let more : bits ≡ y + d = omega (arith, no_more) in
    let power : 2 ^ bits ≡ n * 2 ^ d = ap (λ v. 2 ^ v) more ∙ pow-add 2 y d ∙ ap (λ v. v * 2 ^ d) (sym is) in
    let parts : count ≡ n / 2 * 2 ^ d = omega (arith, whole, power, ap (λ v. v * 2 ^ d) twice) in
    record {
      bits_is = more;
      half = twice;
      within = within;
      quotient = ap (λ v. v / (n / 2)) parts ∙ mul-div_cancel_left (2 ^ d) {n = n / 2} (omega (arith, some));
      root = ap (λ v. v / n) power ∙ mul-div_cancel_left (2 ^ d) (omega (arith, some));
      first = ap (λ v. v / 2) (sym is);
    }

-- the first entries of a table
pub all_taken : {T : Type 0} (P : T → Type 0) (n : ℕ) (xs : List T) → n ≤ length xs → All P xs → All P (take n xs)
all_taken P n xs within all k d l = grind (arith, length-take-le, get_or-take)

pub number_taken : {T : Type 0} (value : T → ℕ) (n k : ℕ) (xs : List T) → k < n
    → numbers value (take n xs) k ≡ numbers value xs k
number_taken value n k xs below =
    ap (λ ys. get_or ys k 0) (sym (take-map value n xs)) ∙ get_or-take n (map value xs) k 0 below

-- the twiddle factors of a power of the root over them
pub shorter_twiddles : {m g count : ℕ} {w : ℕ → ℕ} (bits h y d : ℕ) → bits ≡ y + d → h ≡ g ^ (2 ^ d) % m
    → AreTwiddles m g bits count w
    → AreTwiddles m h y (2 ^ y / 2) w
shorter_twiddles {m} {g} {count} {w} bits h y d more is twiddles =
    rw is (first_entries y d (rw more at twiddles))
