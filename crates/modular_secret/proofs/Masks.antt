-- Words and masks modulo a base.
use Rattle.std.proofs.Common.{◌≡◌, ℕ, ◌+◌, ◌-◌, ◌*◌, ◌/◌, ◌%◌, ◌^◌, ◌<◌, ◌≤◌, bit_and, bit_xor, ◌∙◌, ap, arith, ⊎_elim}
use Rattle.std.proofs.Math.Nat.{mod-eq_of_lt, add-mul-mod_self_left}
use Rattle.std.proofs.lemmas.Bool.{cases_lt}
use Rattle.std.proofs.lemmas.Nat.{and_mask, pow-add}
use Rattle.std.specs.Int.Bits.{xor_add_and}

-- a number above the base by a number below it
pub remainder_above : (n base r : ℕ) → r < base → n ≡ r + base → n % base ≡ r
remainder_above n base r h e = grind (arith, add-mul-mod_self_left, mod-eq_of_lt)

-- all bits keep a word, and none clears it
pub and_all : (w x mask : ℕ) → x < 2 ^ w → mask + 1 ≡ 2 ^ w → bit_and x mask ≡ x
and_all w x mask h e = ap (λ k. bit_and x k) (omega arith) ∙ and_mask _ _ ∙ mod-eq_of_lt h

-- all bits make the negative, and none keeps a word
pub negative_of_all : (w x mask : ℕ) → x < 2 ^ w → mask + 1 ≡ 2 ^ w → bit_xor x mask + x ≡ mask
negative_of_all w x mask h e = omega (arith, (xor_add_and x mask), (and_all _ _ _ h e))

-- the negative of 1 has all bits, and that of 0 has none
pub all_of_one : (base low r : ℕ) → low ≡ 1 → (r + low) % base ≡ 0 → r < base → r + 1 ≡ base
all_of_one base low r one e h = grind (arith, mod-eq_of_lt)

pub none_of_zero : (base low r : ℕ) → low ≡ 0 → (r + low) % base ≡ 0 → r < base → r ≡ 0
none_of_zero base low r zero e h = grind (arith, mod-eq_of_lt)

pub added_nothing : (base first e r : ℕ) → e ≡ 0 → r ≡ (first + e) % base → first < base → r ≡ first
added_nothing base first e r none sum h = grind (arith, mod-eq_of_lt)

-- a difference with a borrow, added back, is the smaller number, and its negative the difference the other way round
pub difference_added_back : (base a b d e r : ℕ) → a < b → b < base → d + b ≡ a + base → e ≡ d → r ≡ (b + e) % base
    → r ≡ a
difference_added_back base a b d e r l h borrow same sum = grind (arith, remainder_above)

pub other_way : (base a b d r : ℕ) → a < b → b < base → d + b ≡ a + base → r < base → (r + d) % base ≡ 0 → r + a ≡ b
other_way base a b d r l h borrow fits negative = grind (arith, mod-eq_of_lt, remainder_above)

pub base_by_four : (base w : ℕ) → base ≡ 2 ^ w → 8 ≤ w → base ≡ 4 * 2 ^ (w - 2)
base_by_four base w e h = grind (arith, pow-add)

-- an even base: half of an even number is as odd as half of its negative
pub same_parity : (base q d h : ℕ) → base ≡ 4 * q → d + 2 * h ≡ base → d / 2 % 2 ≡ h % 2
same_parity base q d h e s = omega arith

-- a mask taken away: all bits add one, and none adds nothing
pub masked_parity : (base q t l r : ℕ) → base ≡ 4 * q → l + 1 ≡ base → (r + l) % base ≡ t → r < base
    → r % 2 ≡ (t + 1) % 2
masked_parity base q t l r e all whole fits = grind (arith, mod-eq_of_lt, remainder_above)

pub none_more : (base t l r : ℕ) → l ≡ 0 → (r + l) % base ≡ t → r < base → r ≡ t
none_more base t l r none whole fits = grind (arith, mod-eq_of_lt)

-- twice a number below m, as a difference
pub doubled_with_borrow : (base m v c d l e r : ℕ) → v < m → m < base → (c + v) % base ≡ m → c < base
    → (v < c → d + c ≡ v + base) → (v < c → l + 1 ≡ base) → (c ≤ v → d + c ≡ v) → (c ≤ v → l ≡ 0)
    → (l + 1 ≡ base → e ≡ m) → (l ≡ 0 → e ≡ 0) → r ≡ (d + e) % base → r ≡ (2 * v) % m
doubled_with_borrow base m v c d l e r vm mb gap cb below all exact none kept cleared sum =
    let c_is : c + v ≡ m = grind (arith, mod-eq_of_lt, remainder_above) in
    ⊎_elim (λ (s : v < c).
    grind (arith, remainder_above, mod-eq_of_lt))
    (λ (s : c ≤ v).
    grind (arith, mod-eq_of_lt, remainder_above))
    (cases_lt _ _)

-- the negative of a number below m, as a difference
pub negative_with_borrow : (base m v z d l e r : ℕ) → v < m → m < base → z ≡ 0
    → (z < v → d + v ≡ z + base) → (z < v → l + 1 ≡ base) → (v ≤ z → d + v ≡ z) → (v ≤ z → l ≡ 0)
    → (l + 1 ≡ base → e ≡ m) → (l ≡ 0 → e ≡ 0) → r ≡ (d + e) % base → (r < m) × ((r + v) % m ≡ 0 % m)
negative_with_borrow base m v z d l e r vm mb zero below all exact none kept cleared sum =
    ⊎_elim (λ (s : z < v).
    grind (arith, remainder_above, add-mul-mod_self_left))
    (λ (s : v ≤ z).
    omega arith)
    (cases_lt _ _)
