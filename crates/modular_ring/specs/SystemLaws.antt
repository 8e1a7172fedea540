-- Products of moduli, and the step of Garner's method: lemmas that callers may cite.
-- The names are the library's own words.
use Rattle.std.proofs.Common.{◌≡◌, ℕ, zero, suc, ◌+◌, ◌*◌, ◌/◌, ◌%◌, ◌^◌, ◌<◌, ◌≤◌, List, slice_index, get_or}
use Rattle.std.proofs.Common.{length, sym, ap, subst, ◌∙◌, arith, ⊎_elim, Bool, set, below_more}
use Rattle.std.proofs.Common.{true, false, IsTrue, ◌↔◌, Option, Some, None, is_some, MatchOption}
use Rattle.std.proofs.Math.Nat.{div-add-mod, add-mul-mod_self_left, mod-eq_of_lt, mod-lt}
use Rattle.std.proofs.Math.Nat.{mod-mod, mod-add-mod, add-mod-mod, mul-le-mul_left}
use Rattle.std.proofs.lemmas.Nat.{mul-add-lt, mul-mod_second}
use Rattle.std.proofs.lemmas.Bool.{cases_lt}
use Rattle.std.proofs.lemmas.List.{get_or-set_same, get_or-set_other}
use Rattle.modular_word.specs.Divisors.{Coprime, gcd}
use Rattle.modular_word.specs.Inverses.{IsInverse, HasInverse}
use Rattle.modular_ring.specs.Products.{product_below}
use Rattle.modular_ring.specs.ProductLaws.{product-more, has_product}
use Rattle.modular_ring.specs.Systems.{range_below, IsSystem}

-- each modulus divides the product
pub divides : (n j : ℕ) (ms : List ℕ) → j < n → (k : ℕ) × (range_below n ms ≡ get_or ms j 0 * k)
unfolding product_below
divides zero j ms h = absurd (omega arith)
divides (suc n) j ms h =
    ⊎_elim
    (λ (b : j < n).
    let (k, e) = divides n j ms b in
    (k * get_or ms n 0, let f = ap (λ p. p * get_or ms n 0) e in omega (arith, f)))
    (λ (b : n ≤ j).
    let here : j ≡ n = omega arith in
    (range_below n ms, let f = ap (λ i. range_below n ms * get_or ms i 0) here in omega (arith, f)))
    (cases_lt j n)

-- products grow
pub grows : (n k : ℕ) (ms : List ℕ) → ((i : ℕ) → i < k → 0 < get_or ms i 0) → n ≤ k
    → range_below n ms ≤ range_below k ms
unfolding product_below
grows n zero ms positive h = let e : n ≡ 0 = omega arith in omega (arith, ap (λ i. range_below i ms) e)
grows n (suc k) ms positive h =
    ⊎_elim
    (λ (b : k < n). let e : n ≡ suc k = omega arith in omega (arith, ap (λ i. range_below i ms) e))
    (λ (b : n ≤ k).
    let before = grows n k ms (λ i l. positive i (omega arith)) b in
    let one : 1 ≤ get_or ms k 0 = positive k (omega arith) in
    omega (arith, before, mul-le-mul_left (range_below k ms) one))
    (cases_lt k n)

-- congruent numbers differ by multiples of m
pub spread : (m a b : ℕ) → a % m ≡ b % m → a + m * (b / m) ≡ b + m * (a / m)
spread m a b e = omega (arith, div-add-mod a m, div-add-mod b m)

-- numbers that differ by multiples of m are congruent
pub gathered : (m a b j k : ℕ) → a + m * j ≡ b + m * k → a % m ≡ b % m
gathered m a b j k e = sym (add-mul-mod_self_left a m j) ∙ ap (λ n. n % m) e ∙ add-mul-mod_self_left b m k

-- an inversion of n, reduced first, says whether n has an inverse
pub inversion_tells : {A : Type 0} (its_modulus its_residue : A → ℕ) (m a : ℕ) (found : Option A) (b : Bool)
    → MatchOption found ((x : ℕ) → IsInverse m a x → ⊥) (λ y. (its_modulus y ≡ m) × IsInverse m a (its_residue y))
    → b ≡ is_some found → IsTrue b ↔ HasInverse m a
inversion_tells its_modulus its_residue m a None b h e =
    ((λ t. let wrong : false ≡ true = sym e ∙ t in cc), λ (x, inverse). absurd (h x inverse))
inversion_tells its_modulus its_residue m a (Some y) b h e = ((λ t. (its_residue y, h.1)), λ inverse. e)

-- the digit t gives the residue r
pub digit_right : (m number range t r s k w : ℕ) → k ≡ number % m % m → w ≡ range % m % m → (t * w) % m ≡ s
    → (s + k) % m ≡ r % m % m → (number + range * t) % m ≡ r % m
digit_right m number range t r s k w known weight quotient difference =
    let turn : number + range * t ≡ t * range + number = omega arith in
    let product : (t * range) % m ≡ s =
    sym (mul-mod_second t range m) ∙ ap (λ n. (t * n) % m) (sym (weight ∙ mod-mod range m)) ∙ quotient in
    ap (λ n. n % m) turn ∙ sym (mod-add-mod (t * range) m number) ∙ ap (λ n. (n + number) % m) product
    ∙ sym (add-mod-mod s number m) ∙ ap (λ n. (s + n) % m) (sym (known ∙ mod-mod number m)) ∙ difference ∙ mod-mod r m

-- a number with a digit more keeps its residue modulo a divisor of the range
pub keeps : (range a k v d : ℕ) → range ≡ a * k → (v + range * d) % a ≡ v % a
keeps range a k v d e =
    let turn : v + range * d ≡ v + a * (k * d) = let f = ap (λ n. n * d) e in omega (arith, f) in
    ap (λ n. n % a) turn ∙ add-mul-mod_self_left v a (k * d)

-- it is below the next range
pub within : (range m v d : ℕ) → v < range → d < m → v + range * d < range * m
within range m v d h k = let f = mul-add-lt d range v m k h in omega (arith, f)

only_at : (range m v d q i j k a b : ℕ) → v + range * q + m * a ≡ v + range * d + m * b → range * i + m * j ≡ 1 + m * k
    → q + m * (k * q + j * d + i * a) ≡ d + m * (k * d + j * q + i * b)
only_at range m v d q i j k a b e one =
    let along = ap (λ n. i * n) e in
    let times_q = ap (λ n. n * q) one in
    let times_d = ap (λ n. n * d) one in
    omega (arith, along, times_q, times_d)

-- it is the one number there with its residues
pub only_digit : (range m x v d : ℕ) → HasInverse m range → x % range ≡ v
    → (v + range * d) % m ≡ x % m → v < range → d < m
    → x % (range * m) ≡ v + range * d
only_digit range m x v d (i, inverse) is same h k =
    let q = x / range in
    let whole = div-add-mod x range in
    let parts : v + range * q ≡ x = omega arith in
    let one = spread m (range * i) 1 inverse.one in
    let equal = spread m (v + range * q) (v + range * d) (ap (λ n. n % m) parts ∙ sym same) in
    let digit : q % m ≡ d = gathered m q d _ _ (only_at range m v d q i _ _ _ _ equal one) ∙ mod-eq_of_lt k in
    let rest = div-add-mod q m in
    let digits : q ≡ m * (q / m) + d = omega arith in
    let along = ap (λ n. range * n) digits in
    let sum : x ≡ v + range * d + range * m * (q / m) = omega arith in
    ap (λ n. n % (range * m)) sum ∙ add-mul-mod_self_left (v + range * d) (range * m) (q / m)
    ∙ mod-eq_of_lt (within range m v d h k)

-- in a system the product of the moduli before one has an inverse modulo it, by the laws of divisors and of inverses
pub unit_here : (ms : List ℕ) (n : ℕ) → ((a m : ℕ) → 0 < m → Coprime a m ↔ (gcd a m ≡ 1))
    → ((m a : ℕ) → 0 < m → HasInverse m a ↔ (gcd a m ≡ 1))
    → IsSystem ms → n < length ms → HasInverse (get_or ms n 0) (range_below n ms)
unit_here ms n coprime exists system h =
    let m = get_or ms n 0 in
    let positive : 0 < m = system.positive n h in
    has_product m n (slice_index ms) positive (λ j l.
    (exists m (get_or ms j 0) positive).1 ((coprime (get_or ms j 0) m positive).0 (system.coprime n j l h)))

-- and the product with it is a word
pub next_fits : (ms : List ℕ) (n range : ℕ) → range ≡ range_below n ms → IsSystem ms → n < length ms
    → range * get_or ms n 0 < 2 ^ 128
next_fits ms n range e system h =
    let whole : range * get_or ms n 0 ≡ range_below (n + 1) ms =
    ap (λ k. k * get_or ms n 0) e ∙ sym (product-more (slice_index ms) n) in
    let most : range_below (n + 1) ms ≤ range_below (length ms) ms =
    grows (n + 1) (length ms) ms system.positive (omega arith) in
    let fits : range_below (length ms) ms < 2 ^ 128 = system.fits in
    omega (arith, whole, most, fits)

-- modulo 1, every number is 0
pub modulo_one : (x : ℕ) → x % 1 ≡ 0
modulo_one x =
    let one : 0 < 1 = omega arith in
    let below : x % 1 < 1 = mod-lt x one in
    omega (arith, below)

-- a write of one place more keeps what holds of the places so far
pub set_more : (xs : List ℕ) (place v : ℕ) (P : ℕ → ℕ → Type 0) → place < length xs
    → ((i : ℕ) → i < place → P i (get_or xs i 0)) → P place v
    → (i : ℕ) → i < place + 1 → P i (get_or (set xs place v) i 0)
set_more xs place v P within before here =
    below_more (λ i. P i (get_or (set xs place v) i 0)) place
    (λ i h. subst (P i) (sym (get_or-set_other xs place i v 0 (λ e. omega (arith, h, e)))) (before i h))
    (subst (P place) (sym (get_or-set_same xs place v 0 within)) here)
