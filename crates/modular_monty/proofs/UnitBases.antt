-- Reductions of small numbers, and bases that are 1 modulo m.
use Rattle.std.proofs.Common.{◌≡◌, ℕ, suc, zero, ◌+◌, ◌*◌, ◌%◌, ◌<◌, ap, ◌∙◌, arith, refl}
use Rattle.std.proofs.Math.Nat.{mod-eq_of_lt, mul-le-mul_left, mul-le-mul_right, add-mul-mod_self_left}
use Rattle.std.proofs.Math.Nat.{add-mul-mod_self_right}
use Rattle.std.proofs.Math.Nat.{lt_of_mul-lt-mul_right}
use Rattle.std.proofs.lemmas.Nat.{div-mul-add}
use Rattle.modular_word.proofs.Congruence.{same_product}
use Rattle.modular_word.specs.Reduction.{IsReduction}
use Rattle.modular_reduced.specs.Factors.{IsFactor}

-- a number below m and a multiple of m by a word add up to less than m times the base
pub sum_below_multiple : (B m t x : ℕ) → t < m → x < B → t + x * m < B * m
sum_below_multiple B m t x below fits = grind (arith, mul-le-mul_right)

-- so the sum is a double word
pub sum_fits_double_word : (B m t x : ℕ) → t < m → x < B → m < B → t + x * m < B * B
sum_fits_double_word B m t x below fits word = grind (arith, mul-le-mul_left, sum_below_multiple)

-- where its low word is 0, it is the high word times the base ..
pub high_times_base : (B m t x low high : ℕ) → (t + x * m) % B ≡ 0 → t + x * m ≡ low + B * high → low < B
    → high * B ≡ t + x * m
high_times_base B m t x low high cleared parts low_fits = grind (arith, mod-eq_of_lt, add-mul-mod_self_left)

-- .. so the high word is the reduction
pub reduces_below : (B m t x low high : ℕ) → t < m → x < B → (t + x * m) % B ≡ 0 → t + x * m ≡ low + B * high → low < B
    → IsReduction B m t high
reduces_below B m t x low high below fits cleared parts low_fits =
    let whole : high * B ≡ t + x * m = high_times_base B m t x low high cleared parts low_fits in
    let less : high * B < m * B = omega (arith, whole, sum_below_multiple B m t x below fits) in
    grind (arith, lt_of_mul-lt-mul_right, add-mul-mod_self_right)

-- and x is its quotient as a factor
pub factor_of_reduction : (B m t x high : ℕ) → t < m → IsReduction B m t high → high * B ≡ t + x * m
    → IsFactor B m high x
factor_of_reduction B m t x high below is whole = grind (arith, div-mul-add)

-- the word whose successor is the base
next_word : (B low : ℕ) → low < B → (low + 1) % B ≡ 0 → low + 1 ≡ B
next_word B low fits next = grind (arith, mod-eq_of_lt)

-- a base that is more by 1 than a multiple of m is 1 modulo m
pub unit_base : (B m i low high : ℕ) → m * i ≡ low + B * high → high ≡ 0 → low < B → (low + 1) % B ≡ 0 → B % m ≡ 1 % m
unit_base B m i low high parts none fits next =
    let whole : B ≡ 1 + m * i = omega (arith, next_word B low fits next, ap (λ n. B * n) none, parts) in
    ap (λ n. n % m) whole ∙ add-mul-mod_self_left 1 m i

-- a number below the base has the high word 0
no_high : (B t low high : ℕ) → t < B → t ≡ low + B * high → high ≡ 0
no_high B t low zero less parts = refl
no_high B t low (suc high) less parts = omega arith

-- by such a base, a number is congruent to its product with the base
pub unit_product : (B m f : ℕ) → B % m ≡ 1 % m → (f * B) % m ≡ f % m
unit_product B m f unit =
    same_product m f f B 1 refl unit ∙ ap (λ n. n % m) (omega arith)

-- so a number below m, which has the high word 0, is the reduction of itself
pub unit_reduction : (B m t low high : ℕ) → B % m ≡ 1 % m → t < m → m < B → t ≡ low + B * high → IsReduction B m t low
unit_reduction B m t low high unit less fits parts =
    let none = no_high B t low high (omega (arith, less, fits)) parts in
    let same : low ≡ t = omega (arith, parts, ap (λ n. B * n) none) in
    rw same (record { below = less; congruent = unit_product B m t unit })
