-- A table made by doublings: the entries at the places of one bit, and the others from two each.
use Rattle.std.proofs.Common.{◌≡◌, ℕ, suc, ◌+◌, ◌-◌, ◌*◌, ◌/◌, ◌%◌, ◌^◌, ◌<◌, ◌≤◌, List, get_or, length}
use Rattle.std.proofs.Common.{sym, ◌∙◌, ap, arith, subst, get_or-set_same, get_or-set_other}
use Rattle.std.proofs.Math.ListN.{set}
use Rattle.std.proofs.Math.Nat.{two-pow-succ, pow-zero, mod-eq_of_lt, pow-le-pow_right}
use Rattle.std.proofs.Math.Pow.{pow-lt}
use Rattle.std.proofs.lemmas.Bool.{cases_eq}
use Rattle.std.proofs.lemmas.Nat.{mul-mod, pow-add, pow_pos}
use Rattle.modular_word.proofs.Powers.{pow-one}
use Rattle.modular_transform.specs.Orders.{bits_reversed}
use Rattle.modular_transform.specs.Transforms.{Suits}
use Rattle.modular_transform.proofs.BitReversal.{bits_reversed-suc, bits_reversed_of_zero, bits_reversed_of_parts}
use Rattle.modular_plan_passes.specs.Factors.{IsFactor}
use Rattle.modular_plan_passes.specs.Plans.{numbers, AreTwiddles}
use Rattle.modular_plan_passes.proofs.Entries.{number_written, number_not_written}
use Rattle.modular_plan_passes.proofs.Tables.{half_has_previous_exponent}

-- the reversed bits of a place below 2^t and one of bit t
record AreApart (s t x : ℕ) : Type 0 where
  low : bits_reversed s (2 ^ t) ≡ 2 ^ (s - 1 - t)
  both : bits_reversed s (2 ^ t + x) ≡ bits_reversed s x + bits_reversed s (2 ^ t)

are_apart : (s t x u : ℕ) → s ≡ t + suc u → x < 2 ^ t → AreApart s t x
are_apart s t x u is below =
    grind (
      arith,
      bits_reversed_of_parts t (suc u) 0 1 (pow_pos t),
      bits_reversed_of_parts t (suc u) x 0 below,
      bits_reversed_of_parts t (suc u) x 1 below,
      bits_reversed_of_zero,
      bits_reversed-suc u 1,
    )

pub reversed_of_one_bit : (s t : ℕ) → t < s → bits_reversed s (2 ^ t) ≡ 2 ^ (s - 1 - t)
reversed_of_one_bit s t below = (are_apart s t 0 (s - 1 - t) (omega (arith, below)) (pow_pos t)).low

pub reversed_of_sum : (s t x : ℕ) → t < s → x < 2 ^ t
    → bits_reversed s (2 ^ t + x) ≡ bits_reversed s x + bits_reversed s (2 ^ t)
reversed_of_sum s t x below within = (are_apart s t x (s - 1 - t) (omega (arith, below)) within).both

-- the entry at place k is the twiddle factor
pub record IsMade {F : Type 0} (value quotient : F → ℕ) (base m g bits : ℕ) (table : List F) (k : ℕ) : Type 0 where
  pub factor : (d : F) → IsFactor base m (value (get_or table k d)) (quotient (get_or table k d))
  pub power : numbers value table k ≡ g ^ bits_reversed bits k % m

-- after a write: the place itself ..
pub made_now : {F : Type 0} {value quotient : F → ℕ} {base m g bits : ℕ} (table : List F) {i : ℕ} (x : F)
    → i < length table → IsFactor base m (value x) (quotient x) → value x ≡ g ^ bits_reversed bits i % m
    → IsMade value quotient base m g bits (set table i x) i
made_now {F} {value} {quotient} {base} {m} {g} {bits} table {i} x within factor power =
    grind (arith, get_or-set_same, number_written)

-- .. and one that was made before
pub made_before : {F : Type 0} {value quotient : F → ℕ} {base m g bits : ℕ} {table : List F} {i k : ℕ} (x : F)
    → IsMade value quotient base m g bits (set table i x) i → IsMade value quotient base m g bits table k
    → IsMade value quotient base m g bits (set table i x) k
made_before {F} {value} {quotient} {base} {m} {g} {bits} {table} {i} {k} x now before =
    grind (arith, cases_eq, get_or-set_other, number_not_written)

-- a factor is one by its numbers
pub same_factor : {base m v q w r : ℕ} → IsFactor base m v q → w ≡ v → r ≡ q → IsFactor base m w r
same_factor {base} {m} {v} {q} {w} {r} is e f =
    subst (λ y. IsFactor base m y r) (sym e) (subst (IsFactor base m v) (sym f) is)

pub holds_below_next : (P : ℕ → Type 0) (i : ℕ) → ((k : ℕ) → k < i → P k) → P i → (k : ℕ) → k < i + 1 → P k
holds_below_next P i before now k l = grind arith

pub holds_from_previous : (P : ℕ → Type 0) (i : ℕ) → ((k : ℕ) → i + 1 ≤ k → P k) → P i → (k : ℕ) → i ≤ k → P k
holds_from_previous P i before now k l = grind arith

-- the first place
pub first_entry_is_zeroth_power : (m one power value g bits : ℕ) → one ≡ 1 → power ≡ one % m → value ≡ power
    → value ≡ g ^ bits_reversed bits 0 % m
first_entry_is_zeroth_power m one power value g bits is_one is e = grind (arith, pow-zero g, bits_reversed_of_zero bits)

-- half of the place p of one bit
pub record IsHalved (s i p : ℕ) : Type 0 where
  pub next : p / 2 ≡ 2 ^ (s - (i + 1))
  pub within : p / 2 < 2 ^ s
  pub reversed : bits_reversed s (p / 2) ≡ 2 ^ i

pub half_place : (s i p : ℕ) → i < s → p ≡ 2 ^ (s - i) → IsHalved s i p
half_place s i p below is =
    let t : ℕ = s - (i + 1) in
    let two : 2 ^ (s - i) ≡ 2 * 2 ^ t = grind (arith, two-pow-succ t) in
    grind (arith, pow-lt {i = t} {j = s} (omega (arith, below)), reversed_of_one_bit s t (omega (arith, below)))

-- a place of one bit, and as many beyond it
pub two_within : (s t p n : ℕ) → t < s → p ≡ 2 ^ t → n ≡ 2 ^ s → 2 * p ≤ n
two_within s t p n below is whole =
    let most = pow-le-pow_right {n = 2} (omega arith) {i = suc t} {j = s} (omega (arith, below)) in
    omega (arith, is, whole, two-pow-succ t, most)

pub one_within : (s t p n : ℕ) → t < s → p ≡ 2 ^ t → n ≡ 2 ^ s → p < n
one_within s t p n below is whole = omega (arith, two_within s t p n below is whole, pow_pos t)

pub twice_place : (t p : ℕ) → p ≡ 2 ^ t → p * 2 ≡ 2 ^ (t + 1)
twice_place t p is = grind (arith, two-pow-succ t)

pub root_itself : (m g : ℕ) → g < m → g ≡ g ^ (2 ^ 0) % m
root_itself m g below = sym (ap (λ v. v % m) (pow-one g) ∙ mod-eq_of_lt below)

pub square_next : (m g i power value next : ℕ) → power ≡ g ^ (2 ^ i) % m → value ≡ power → next ≡ (power * value) % m
    → next ≡ g ^ (2 ^ (i + 1)) % m
square_next m g i power value next is same e =
    grind (arith, two-pow-succ i, mul-mod (g ^ (2 ^ i)) (g ^ (2 ^ i)) m, pow-add g (2 ^ i) (2 ^ i))

pub product_of_two : (m g s t x v w result : ℕ) → t < s → x < 2 ^ t → v ≡ g ^ bits_reversed s x % m
    → w ≡ g ^ bits_reversed s (2 ^ t) % m → result ≡ (v * w) % m → result ≡ g ^ bits_reversed s (2 ^ t + x) % m
product_of_two m g s t x v w result below within is_v is_w e = grind (arith, mul-mod, pow-add, reversed_of_sum)

-- all entries are made
pub twiddles_of_made : {F : Type 0} (value quotient : F → ℕ) (base m g n bits z : ℕ) (table : List F)
    → Suits m g (2 * n)
    → 2 ^ z ≡ 2 * n → n ≡ 2 ^ bits → ((k : ℕ) → k < n → IsMade value quotient base m g bits table k)
    → AreTwiddles m g z n (numbers value table)
twiddles_of_made value quotient base m g n bits z table suits e whole made = grind (arith, half_has_previous_exponent)
