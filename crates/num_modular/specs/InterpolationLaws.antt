-- Polynomials with n coefficients whose values at n numbers with unit differences are congruent have congruent
-- coefficients: by induction, from a polynomial to its quotient by X - a. The names are the library's own words.
use Rattle.std.proofs.Common.{◌≡◌, ◌≢◌, ℕ, zero, suc, ◌+◌, ◌-◌, ◌*◌, ◌%◌, ◌^◌, ◌<◌, ◌≤◌, pos, ◌-ℤ◌}
use Rattle.std.proofs.Common.{ap, sym, ◌∙◌, arith, List, length, get_or, slice_index}
use Rattle.std.proofs.Math.Nat.{zero-mod}
use Rattle.std.proofs.lemmas.List.{get_or_past}
use Rattle.modular_word.specs.Congruence.{Congruent}
use Rattle.modular_word.specs.Inverses.{HasInverse}
use Rattle.modular_word.specs.Residues.{residue}
use Rattle.modular_word.proofs.Congruence.{mod_of_eq, mod_refl, mod_sym, mod_trans, mod_add, mod_mul, mod_add_cancel}
use Rattle.modular_word.proofs.Congruence.{mod_mul_cancel}
use Rattle.modular_word.proofs.Polynomials.{polynomial_of_next_coefficient}
use Rattle.modular_word.proofs.ResidueLemmas.{difference_and}
use Rattle.modular_word.proofs.Sums.{sum_below-zero, sum_below-of_zeros}
use Rattle.modular_symbols.specs.Primes.{IsPrime}
use Rattle.modular_symbols.proofs.PrimeLaws.{inverse_to}
use Rattle.num_modular.specs.Polynomials.{polynomial_at, polynomial_highest_first, HaveUnitDifferences}
use Rattle.num_modular.specs.PolynomialLaws.{polynomial-none, polynomial-first, polynomial-same}
use Rattle.num_modular.specs.SumLaws.{tail}

-- for each coefficient the value at a of what begins with it; all but the first are the quotient by X - a
rests : ℕ → ℕ → (ℕ → ℕ) → ℕ → ℕ
rests zero a c i = 0
rests (suc n) a c zero = polynomial_at (suc n) c a
rests (suc n) a c (suc i) = rests n a (λ j. c (suc j)) i

-- one coefficient more
more : (x a c v w q f g r : ℕ) → f ≡ c + x * v → g ≡ c + a * w → r ≡ g + x * q
    → x * v + a * q ≡ a * w + x * q → x * f + a * r ≡ a * g + x * r
more x a c v w q f g r is_f is_g is_r e =
    let s = ap (λ k. x * k) e in
    let t = ap (λ k. x * k) is_f in
    let u = ap (λ k. a * k) is_r in
    let v = ap (λ k. x * k) is_r in
    let w = ap (λ k. x * k) is_g in
    omega (arith, s, t, u, v, w)

-- X times the polynomial leaves at a what it leaves at x, and X - a times the rests
divided : (n a x : ℕ) (c : ℕ → ℕ)
    → x * polynomial_at n c x + a * polynomial_at n (rests n a c) x
    ≡ a * polynomial_at n c a + x * polynomial_at n (rests n a c) x
unfolding rests
divided zero a x c =
    let p = ap (λ k. x * k) (polynomial-none c x) in
    let q = ap (λ k. a * k) (polynomial-none c a) in
    let r = ap (λ k. a * k) (polynomial-none (λ i. 0) x) in
    let s = ap (λ k. x * k) (polynomial-none (λ i. 0) x) in
    omega (arith, p, q, r, s)
divided (suc n) a x c =
    more x a (c 0) _ _ _ _ _ _ (polynomial-first n c x) (polynomial-first n c a)
    (polynomial-first n (rests (suc n) a c) x) (divided n a x (λ j. c (suc j)))

-- where the value at b is that at a and (b - a)·q
at_other : (m a b p s q u : ℕ) → p + a * q ≡ s + b * q → Congruent m (u + a) b → Congruent m p (s + q * u)
at_other m a b p s q u e is =
    let split : s + (u + a) * q ≡ (s + q * u) + a * q = omega arith in
    mod_add_cancel (a * q)
    (mod_trans (mod_of_eq e) (mod_trans (mod_add (mod_refl s) (mod_mul (mod_sym is) (mod_refl q))) (mod_of_eq split)))

-- where two polynomials are congruent at a and at b, so are the quotients by X - a at b
same_quotient : (m n a b : ℕ) (c d : ℕ → ℕ) → HasInverse m (residue m (pos b -ℤ pos a))
    → Congruent m (polynomial_at (suc n) c a) (polynomial_at (suc n) d a)
    → Congruent m (polynomial_at (suc n) c b) (polynomial_at (suc n) d b)
    → Congruent m (polynomial_at n (rests n a (λ j. c (suc j))) b)
    (polynomial_at n (rests n a (λ j. d (suc j))) b)
same_quotient m n a b c d unit at_a at_b =
    let below = unit.1.below in
    let u : ℕ = residue m (pos b -ℤ pos a) in
    let is : Congruent m (u + a) b = record { same = difference_and m b a (omega (arith, below)) } in
    let whole : (e : ℕ → ℕ) → polynomial_at (suc n) e b + a * polynomial_at n (rests n a (λ j. e (suc j))) b
    ≡ polynomial_at (suc n) e a + b * polynomial_at n (rests n a (λ j. e (suc j))) b =
    λ e.
    let f = polynomial-first n e b in
    let g = polynomial-first n e a in
    let h = divided n a b (λ j. e (suc j)) in
    omega (arith, f, g, h) in
    let left = at_other m a b _ _ _ u (whole c) is in
    let right = at_other m a b _ _ _ u (whole d) is in
    let q : ℕ = polynomial_at n (rests n a (λ j. c (suc j))) b in
    let r : ℕ = polynomial_at n (rests n a (λ j. d (suc j))) b in
    let s : ℕ = polynomial_at (suc n) c a in
    let t : ℕ = polynomial_at (suc n) d a in
    let both : Congruent m (s + q * u) (s + r * u) =
    mod_trans (mod_sym left) (mod_trans at_b (mod_trans right (mod_add (mod_sym at_a) (mod_refl (r * u))))) in
    let swap : s + q * u ≡ q * u + s = omega arith in
    let swap_other : s + r * u ≡ r * u + s = omega arith in
    mod_mul_cancel u unit.0 (record { same = unit.1.one })
    (mod_add_cancel s (mod_trans (mod_of_eq (sym swap)) (mod_trans both (mod_of_eq swap_other))))

values_behind : (m n a : ℕ) (c d : ℕ → ℕ) → ((i : ℕ) → i < n → Congruent m (rests n a c i) (rests n a d i))
    → Congruent m (polynomial_at n c a) (polynomial_at n d a)
unfolding rests
values_behind m zero a c d same = mod_of_eq (polynomial-none c a ∙ sym (polynomial-none d a))
values_behind m (suc n) a c d same = same zero (omega arith)

-- congruent rests have congruent coefficients
from_rests : (m n a : ℕ) (c d : ℕ → ℕ) → ((i : ℕ) → i < n → Congruent m (rests n a c i) (rests n a d i))
    → (i : ℕ) → i < n → Congruent m (c i) (d i)
unfolding rests
from_rests m zero a c d same i l = absurd (omega arith)
from_rests m (suc n) a c d same zero l =
    let behind : Congruent m (polynomial_at n (λ j. c (suc j)) a) (polynomial_at n (λ j. d (suc j)) a) =
    values_behind m n a (λ j. c (suc j)) (λ j. d (suc j)) (λ i k. same (suc i) (omega arith)) in
    let whole = same zero (omega arith) in
    let w : ℕ = polynomial_at n (λ j. c (suc j)) a in
    mod_add_cancel (a * w)
    (mod_trans (mod_of_eq (sym (polynomial-first n c a))) (mod_trans whole (mod_trans (mod_of_eq (polynomial-first n d a))
    (mod_add (mod_refl (d 0)) (mod_mul (mod_refl a) (mod_sym behind))))))
from_rests m (suc n) a c d same (suc i) l =
    from_rests m n a (λ j. c (suc j)) (λ j. d (suc j)) (λ i k. same (suc i) (omega arith)) i (omega arith)

whole_rests : (m n a : ℕ) (c d : ℕ → ℕ)
    → Congruent m (polynomial_at (suc n) c a) (polynomial_at (suc n) d a)
    → ((i : ℕ) → i < n → Congruent m (rests n a (λ j. c (suc j)) i) (rests n a (λ j. d (suc j)) i))
    → (i : ℕ) → i < suc n → Congruent m (rests (suc n) a c i) (rests (suc n) a d i)
unfolding rests
whole_rests m n a c d here behind zero l = here
whole_rests m n a c d here behind (suc i) l = behind i (omega arith)

-- two polynomials with n coefficients and congruent values at n numbers with unit differences
pub same_coefficients : (m n : ℕ) (c d x : ℕ → ℕ) → HaveUnitDifferences m n x
    → ((i : ℕ) → i < n → Congruent m (polynomial_at n c (x i)) (polynomial_at n d (x i)))
    → (i : ℕ) → i < n → Congruent m (c i) (d i)
same_coefficients m zero c d x apart same i l = absurd (omega arith)
same_coefficients m (suc n) c d x apart same i l =
    let at_last = same n (omega arith) in
    let fewer : HaveUnitDifferences m n x =
    record { unit = λ i j k l other. apart.unit i j (omega arith) (omega arith) other } in
    let behind = same_coefficients m n (rests n (x n) (λ j. c (suc j))) (rests n (x n) (λ j. d (suc j))) x fewer
    (λ i l. same_quotient m n (x n) (x i) c d (apart.unit i n (omega arith) (omega arith) (omega arith)) at_last
    (same i (omega arith))) in
    from_rests m (suc n) (x n) c d (whole_rests m n (x n) c d at_last behind) i l

-- a list of coefficients, followed by any number of zeros
polynomial-padded : (n : ℕ) (cs : List ℕ) (x : ℕ) → length cs ≤ n
    → polynomial_at n (λ i. get_or cs i 0) x ≡ polynomial_at (length cs) (slice_index cs) x
polynomial-padded n cs x l =
    let d : ℕ = n - length cs in
    let whole : n ≡ length cs + d = omega arith in
    ap (λ k. polynomial_at k (λ i. get_or cs i 0) x) whole
    ∙ tail (length cs) d (λ i. get_or cs i 0 * x ^ i)
    (λ i past before. let z = ap (λ k. k * x ^ i) (get_or_past cs i 0 past) in omega (arith, z))

-- the same with the coefficients of lists ..
pub same_lists : (m : ℕ) (cs ds points : List ℕ) → HaveUnitDifferences m (length points) (λ i. get_or points i 0)
    → length cs ≤ length points → length ds ≤ length points
    → ((i : ℕ) → i < length points
    → polynomial_at (length cs) (slice_index cs) (get_or points i 0) % m
    ≡ polynomial_at (length ds) (slice_index ds) (get_or points i 0) % m)
    → (i : ℕ) → i < length points → get_or cs i 0 % m ≡ get_or ds i 0 % m
same_lists m cs ds points apart few few_ds same i l =
    let n : ℕ = length points in
    (same_coefficients m n (λ i. get_or cs i 0) (λ i. get_or ds i 0) (λ i. get_or points i 0) apart
    (λ i l. let x : ℕ = get_or points i 0 in record {
      same = ap (λ k. k % m) (polynomial-padded n cs x few) ∙ same i l
          ∙ ap (λ k. k % m) (sym (polynomial-padded n ds x few_ds));
    }) i l).same

-- .. where the values are 0
pub zero_list : (m : ℕ) (cs points : List ℕ) → HaveUnitDifferences m (length points) (λ i. get_or points i 0)
    → length cs ≤ length points
    → ((i : ℕ) → i < length points → polynomial_at (length cs) (slice_index cs) (get_or points i 0) % m ≡ 0)
    → (i : ℕ) → i < length cs → get_or cs i 0 % m ≡ 0
zero_list m cs points apart few zeros i l =
    let n : ℕ = length points in
    let none : (x : ℕ) → polynomial_at n (λ i. 0) x ≡ 0 =
    λ x. sum_below-of_zeros n (λ i. 0 * x ^ i) (λ i l. omega arith) in
    (same_coefficients m n (λ i. get_or cs i 0) (λ i. 0) (λ i. get_or points i 0) apart
    (λ i l. let x : ℕ = get_or points i 0 in record {
      same = ap (λ k. k % m) (polynomial-padded n cs x few) ∙ zeros i l
          ∙ sym (ap (λ k. k % m) (none x) ∙ zero-mod m);
    }) i (omega (arith, l, few))).same ∙ zero-mod m

-- the highest coefficient first
pub reversed : (n : ℕ) (c : ℕ → ℕ) (x : ℕ) → polynomial_highest_first n c x ≡ polynomial_at n (λ i. c (n - 1 - i)) x
reversed zero c x = sum_below-zero (λ i. c i * x ^ (0 - 1 - i)) ∙ sym (polynomial-none (λ i. c (0 - 1 - i)) x)
reversed (suc n) c x =
    let i = ap (λ k. k * x) (reversed n c x) in
    let f = polynomial-first n (λ i. c (suc n - 1 - i)) x in
    let last = ap c (let e : suc n - 1 - 0 ≡ n = omega arith in e) in
    let next = ap (λ k. x * k) (polynomial-same n (λ i. c (suc n - 1 - suc i)) (λ i. c (n - 1 - i)) x
    (λ i l. ap c (let e : suc n - 1 - suc i ≡ n - 1 - i = omega arith in e))) in
    let h = polynomial_of_next_coefficient n c x in
    let one = ap (λ k. polynomial_highest_first k c x) (let e : suc n ≡ n + 1 = omega arith in e) in
    omega (arith, i, f, last, next, h, one)

-- the same for polynomials whose highest coefficient is first
pub same_descending : (m n : ℕ) (c d x : ℕ → ℕ) → HaveUnitDifferences m n x
    → ((i : ℕ) → i < n → polynomial_highest_first n c (x i) % m ≡ polynomial_highest_first n d (x i) % m)
    → (i : ℕ) → i < n → c i % m ≡ d i % m
same_descending m n c d x apart same i l =
    let back : n - 1 - (n - 1 - i) ≡ i = omega arith in
    let e = same_coefficients m n (λ i. c (n - 1 - i)) (λ i. d (n - 1 - i)) x apart
    (λ i l. record {
      same = ap (λ k. k % m) (sym (reversed n c (x i))) ∙ same i l ∙ ap (λ k. k % m) (reversed n d (x i));
    }) (n - 1 - i) (omega arith) in
    ap (λ k. c k % m) (sym back) ∙ e.same ∙ ap (λ k. d k % m) back

-- numbers that are distinct modulo a prime
pub distinct_units : (p n : ℕ) (x : ℕ → ℕ) → IsPrime p
    → ((i j : ℕ) → i < n → j < n → i ≢ j → x i % p ≢ x j % p) → HaveUnitDifferences p n x
distinct_units p n x prime apart = record {
  unit = λ i j k l other. inverse_to (residue p (pos (x i) -ℤ pos (x j))) p prime
      (λ z. apart i j k l other
      (let above = prime.above_one in
      let r : ℕ = residue p (pos (x i) -ℤ pos (x j)) in
      let none : Congruent p r 0 = record { same = z ∙ sym (zero-mod p) } in
      let is : Congruent p (r + x j) (x i) = record { same = difference_and p (x i) (x j) (omega (arith, above)) } in
      let sum : 0 + x j ≡ x j = omega arith in
      (mod_trans (mod_sym is) (mod_trans (mod_add none (mod_refl (x j))) (mod_of_eq sum))).same));
}
