-- Powers modulo a prime: Fermat's theorem for every number, Euler's criterion in whole numbers, and square roots.
use Rattle.std.proofs.Common.{◌≡◌, ◌≢◌, ℕ, ◌+◌, ◌-◌, ◌*◌, ◌/◌, ◌%◌, ◌^◌, ◌<◌, pos, sym, ◌∙◌, ap, refl, arith, inl, inr}
use Rattle.std.proofs.Math.Nat.{zero-mod}
use Rattle.std.proofs.lemmas.Bool.{cases_eq}
use Rattle.std.proofs.lemmas.Bool.Decides.{nat_tests}
use Rattle.std.proofs.lemmas.Nat.{mul-mod, mul-mod_first, pow-add, mul-pow, pow-mod}
use Rattle.modular_word.proofs.Congruence.{same_product}
use Rattle.modular_word.proofs.Powers.{pow-one}
use Rattle.modular_symbols.specs.Primes.{IsPrime}
use Rattle.modular_symbols.proofs.Euler.{classed_power-jacobi}
use Rattle.modular_symbols.proofs.PrimeLaws.{fermats_little_theorem}
use Rattle.modular_symbols.proofs.Squares.{root_from_symbol}

-- equal remainders have equal powers
same_power : (m a b k : ℕ) → a % m ≡ b % m → a ^ k % m ≡ b ^ k % m
same_power m a b k e = sym (pow-mod a k m) ∙ ap (λ v. v ^ k % m) e ∙ pow-mod b k m

-- a power of at least one factor, one factor taken out
one_out : (a k : ℕ) → 0 < k → a ^ k ≡ a ^ (k - 1) * a
one_out a k l = search (arith, pow-add, pow-one)

-- the p-th power is congruent to the number
pub fermat_for_all : (a p : ℕ) → IsPrime p → a ^ p % p ≡ a % p
fermat_for_all a p u =
    let l = u.above_one in
    let out = ap (λ v. v % p) (one_out a p (omega arith)) in
    elim (cases_eq (a % p) 0) [
      | inl z ↦ search (arith, mul-mod, zero-mod)
      | inr n ↦
          let one : 1 * a ≡ a = omega arith in
          out ∙ sym (mul-mod_first (a ^ (p - 1)) a p) ∙ ap (λ v. (v * a) % p) (fermats_little_theorem a p u n)
          ∙ ap (λ v. v % p) one
    ]

-- the half power of a square of a number that p doesn't divide
pub half_of_square : (a p x : ℕ) → p % 2 ≡ 1 → IsPrime p → x % p ≢ 0 → (x * x) % p ≡ a % p → a ^ ((p - 1) / 2) % p ≡ 1
half_of_square a p x o u z e =
    let h : ℕ = (p - 1) / 2 in
    let twice : h + h ≡ p - 1 = omega arith in
    sym (same_power p (x * x) a h e) ∙ ap (λ v. v % p) (mul-pow x x h ∙ sym (pow-add x h h) ∙ ap (λ n. x ^ n) twice)
    ∙ fermats_little_theorem x p u z

-- where the half power is 1, there is such a number
pub root_of_half : (a p : ℕ) → p % 2 ≡ 1 → IsPrime p → a ^ ((p - 1) / 2) % p ≡ 1
    → (x : ℕ) × (x % p ≢ 0) × ((x * x) % p ≡ a % p)
root_of_half a p o u e =
    let c = classed_power-jacobi (pos a) p o u in
    search (arith, pow-mod, nat_tests, root_from_symbol)

-- modulo a prime that is 3 modulo 4, a square has its power to (p + 1) / 4 as a root
pub root_power : (a p x : ℕ) → p % 4 ≡ 3 → IsPrime p → (x * x) % p ≡ a % p
    → (a ^ ((p + 1) / 4) * a ^ ((p + 1) / 4)) % p ≡ a % p
root_power a p x o u e =
    let k : ℕ = (p + 1) / 4 in
    let four : (k + k) + (k + k) ≡ p + 1 = omega arith in
    ap (λ v. v % p) (sym (pow-add a k k)) ∙ sym (same_power p (x * x) a (k + k) e)
    ∙ ap (λ v. v % p) (mul-pow x x (k + k) ∙ sym (pow-add x (k + k) (k + k)) ∙ ap (λ n. x ^ n) four ∙ pow-add x p 1
    ∙ ap (λ v. x ^ p * v) (pow-one x))
    ∙ same_product p (x ^ p) x x x (fermat_for_all x p u) refl ∙ e
