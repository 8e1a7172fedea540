-- Bluestein's method: an entry of a transform is a coefficient of a product of polynomials, times a power.
use Rattle.std.proofs.Common.{◌≡◌, ℕ, zero, suc, ◌+◌, ◌-◌, ◌*◌, ◌%◌, ◌^◌, ◌<◌, List, length, get_or, reverse}
use Rattle.std.proofs.Common.{sym, ◌∙◌, ap, arith, add-one, get_or-set_same, get_or-set_other}
use Rattle.std.proofs.Math.ListN.{set}
use Rattle.std.proofs.lemmas.Bool.{cases_eq}
use Rattle.std.proofs.lemmas.List.{get_or-reverse, length-reverse}
use Rattle.std.proofs.Math.Nat.{pow-suc, pow-zero, zero-mod}
use Rattle.std.proofs.lemmas.Nat.{pow-add, mul-pow}
use Rattle.num_modular.specs.Congruence.{Congruent}
use Rattle.num_modular.specs.NumberLaws.{mod_of_eq, mod_refl, mod_trans, mod_add, mod_mul, mod_pow}
use Rattle.num_modular.specs.NumberLaws.{residue_of, one-pow, pow-mul}
use Rattle.num_modular.specs.NumberLaws.{sum_below-zero, sum_below-suc, sum_below-first, sum_below-same}
use Rattle.num_modular.specs.NumberLaws.{sum_below-congruent, sum_below-mul, sum_below-reversed}
use Rattle.num_modular.specs.Sums.{sum_below}
use Rattle.long_product.specs.AnyLength.{choose_two, scaled_transform}
use Rattle.long_product.specs.Polynomials.{product_entry, HasProductRoom}
use Rattle.long_product.proofs.Coefficients.{no_back}

-- binomial coefficients over 2
pub choose_none : choose_two 0 ≡ 0
choose_none = sum_below-zero (λ i. i)

pub choose_more : (k : ℕ) → choose_two (k + 1) ≡ choose_two k + k
choose_more k = let e : k + 1 ≡ suc k = omega arith in ap choose_two e ∙ sum_below-suc k (λ i. i)

-- a remainder modulo the same number, by another name
pub same_modulus : (a m x v : ℕ) → a ≡ m → v ≡ x % a → v ≡ x % m
same_modulus a m x v same is = is ∙ ap (λ m. x % m) same

-- one more place is written
pub written_entry_extends_prefix : (f : ℕ → ℕ) (out : List ℕ) (k v : ℕ) → k < length out
    → ((i : ℕ) → i < k → get_or out i 0 ≡ f i) → v ≡ f k
    → (i : ℕ) → i < k + 1 → get_or (set out k v) i 0 ≡ f i
written_entry_extends_prefix f out k v within before here i l =
    search (arith, cases_eq, set, get_or-set_same, get_or-set_other)

pub stored_more : (P : ℕ → ℕ → Type 0) (out : List ℕ) (k v : ℕ) → k < length out
    → ((i : ℕ) → i < k → P i (get_or out i 0)) → P k v → (i : ℕ) → i < k + 1 → P i (get_or (set out k v) i 0)
stored_more P out k v within before here i l = search (arith, cases_eq, set, get_or-set_same, get_or-set_other)

pub below_more : (m : ℕ) (out : List ℕ) (k v : ℕ) → k < length out
    → ((i : ℕ) → i < k → get_or out i 0 < m) → v < m → (i : ℕ) → i < k + 1 → get_or (set out k v) i 0 < m
below_more m out k v within before here i l = search (arith, cases_eq, set, get_or-set_same, get_or-set_other)

-- the powers of g, and of g to binomial coefficients, one after the other
pub one_is_zeroth_power : (m g : ℕ) → 1 % m ≡ g ^ 0 % m
one_is_zeroth_power m g = search (arith, pow-zero)

pub step_more : (m g k step v : ℕ) → step ≡ g ^ k % m → v ≡ (g * step) % m → v ≡ g ^ (k + 1) % m
step_more m g k step v is_step is_v =
    is_v ∙ ap (λ v. v % m) (omega arith) ∙ ap (λ s. (s * g) % m) is_step
    ∙ (mod_mul (residue_of (g ^ k)) (mod_refl g)).same
    ∙ ap (λ v. v % m) (sym (ap (λ i. g ^ i) (omega arith) ∙ pow-suc g k))

pub first_chirp_power_is_residue : (m first g : ℕ) → first % m ≡ (first * g ^ choose_two 0) % m
first_chirp_power_is_residue m first g = search (arith, choose_none, pow-zero)

pub next_chirp_power_is_residue : (m first g k power step v : ℕ) → power ≡ (first * g ^ choose_two k) % m
    → step ≡ g ^ k % m
    → v ≡ (power * step) % m → v ≡ (first * g ^ choose_two (k + 1)) % m
next_chirp_power_is_residue m first g k power step v is_power is_step is_v =
    let p = g ^ choose_two k in
    let e : first * p * g ^ k ≡ first * (p * g ^ k) = omega arith in
    is_v ∙ ap (λ a. (a * step) % m) is_power ∙ ap (λ b. ((first * p) % m * b) % m) is_step
    ∙ (mod_mul (residue_of (first * p)) (residue_of (g ^ k))).same
    ∙ ap (λ v. v % m) (e ∙ ap (λ v. first * v) (sym (ap (λ i. g ^ i) (choose_more k) ∙ pow-add g (choose_two k) k)))

pub horner_more : (m w n i sum v : ℕ) (xs : List ℕ) → i < n
    → sum ≡ sum_below i (λ k. get_or xs (n - i + k) 0 * w ^ k) % m
    → v ≡ (sum * w + get_or xs (n - 1 - i) 0) % m
    → v ≡ sum_below (i + 1) (λ k. get_or xs (n - (i + 1) + k) 0 * w ^ k) % m
horner_more m w n i sum v xs l is_sum is_v =
    let f = λ (k : ℕ). get_or xs (n - i + k) 0 * w ^ k in
    let g = λ (k : ℕ). get_or xs (n - (i + 1) + k) 0 * w ^ k in
    let o : n - (i + 1) + 0 ≡ n - 1 - i = omega arith in
    let first : g 0 ≡ get_or xs (n - 1 - i) 0 =
    ap (λ v. get_or xs (n - (i + 1) + 0) 0 * v) (pow-zero w) ∙ ap (λ k. get_or xs k 0 * 1) o ∙ omega arith in
    let rest = sum_below-same i (λ k. g (suc k)) (λ k. w * f k)
    (λ k t.
    let e : n - (i + 1) + suc k ≡ n - i + k = omega arith in
    ap (λ c. get_or xs c 0 * w ^ suc k) e ∙ ap (λ v. get_or xs (n - i + k) 0 * v) (pow-suc w k) ∙ omega arith)
    ∙ sum_below-mul i w f in
    let s = ap (λ k. sum_below k g) (add-one i) ∙ sum_below-first i g in
    is_v ∙ ap (λ s. (s * w + get_or xs (n - 1 - i) 0) % m) is_sum
    ∙ (mod_add (mod_mul (residue_of (sum_below i f)) (mod_refl w)) (mod_refl (get_or xs (n - 1 - i) 0))).same
    ∙ ap (λ v. v % m) (omega (arith, s, first, rest))

pub horner_all : (m part w n i sum v : ℕ) (xs : List ℕ) → i ≡ n
    → sum ≡ sum_below i (λ k. get_or xs (n - i + k) 0 * w ^ k) % m → v ≡ (part * sum) % m
    → v ≡ (part * sum_below n (λ k. get_or xs k 0 * w ^ k)) % m
horner_all m part w n i sum v xs done is_sum is_v = grind (arith, sum_below-same, mod_mul, mod_refl, residue_of)

-- an entry by the sums
pub entry_summed : (m part g n j w v : ℕ) (x : ℕ → ℕ) → w ≡ g ^ j % m
    → v ≡ (part * sum_below n (λ i. x i * w ^ i)) % m → v ≡ scaled_transform m part g n x j
entry_summed m part g n j w v x is_w is_v =
    is_v ∙ (mod_mul (mod_refl part) (sum_below-congruent n (λ i. x i * w ^ i) (λ i. x i * g ^ (i * j))
    (λ i l.
    mod_mul (mod_refl (x i)) (mod_trans (mod_pow i (mod_trans (mod_of_eq is_w) (residue_of (g ^ j))))
    (mod_of_eq (sym (pow-mul g j i) ∙ ap (λ k. g ^ k) (omega arith))))))).same

choose_sum : (i j : ℕ) → choose_two (i + j) ≡ choose_two i + choose_two j + i * j
choose_sum i zero = search (arith, choose_none)
choose_sum i (suc j) =
    let e : i + suc j ≡ i + j + 1 = omega arith in
    search (arith, choose_more, sum_below-suc, choose_sum i j)

-- powers of a number and of its inverse cancel
pub powers_of_inverses_cancel : {m : ℕ} (g h k : ℕ) → Congruent m (g * h) 1 → Congruent m (g ^ k * h ^ k) 1
powers_of_inverses_cancel {m} g h k one =
    mod_trans (mod_of_eq (sym (mul-pow g h k))) (mod_trans (mod_pow k one) (mod_of_eq (one-pow k)))

factors_regrouped : (x p u a b c d : ℕ) → x * a * (p * (b * d * u)) * c ≡ p * (x * u) * (b * a * (d * c))
factors_regrouped x p u a b c d = omega arith

-- one term
term_by_weights : (m part g h i j x a b w : ℕ) → Congruent m (g * h) 1 → Congruent m a (x * h ^ choose_two i)
    → Congruent m b (part * g ^ choose_two (i + j)) → Congruent m w (h ^ choose_two j)
    → Congruent m (a * b * w) (part * (x * g ^ (i * j)))
term_by_weights m part g h i j x a b w one is_a is_b is_w =
    let s = choose_two i in
    let t = choose_two j in
    let u = g ^ (i * j) in
    let powers : g ^ choose_two (i + j) ≡ g ^ s * g ^ t * u =
    ap (λ k. g ^ k) (choose_sum i j) ∙ pow-add g (s + t) (i * j) ∙ ap (λ v. v * u) (pow-add g s t) in
    mod_trans (mod_mul (mod_mul is_a (mod_trans is_b (mod_of_eq (ap (λ v. part * v) powers)))) is_w)
    (mod_trans (mod_of_eq (factors_regrouped x part u (h ^ s) (g ^ s) (h ^ t) (g ^ t)))
    (mod_trans (mod_mul (mod_refl (part * (x * u))) (mod_mul (powers_of_inverses_cancel g h s one)
    (powers_of_inverses_cancel g h t one)))
    (mod_of_eq (omega arith))))

-- all terms
sum_by_weights : (m part g h n j w : ℕ) (x a b : ℕ → ℕ) → Congruent m (g * h) 1
    → ((i : ℕ) → i < n → Congruent m (a i) (x i * h ^ choose_two i))
    → ((i : ℕ) → i < n → Congruent m (b i) (part * g ^ choose_two (i + j)))
    → Congruent m w (h ^ choose_two j)
    → Congruent m (sum_below n (λ i. a i * b i) * w) (part * sum_below n (λ i. x i * g ^ (i * j)))
sum_by_weights m part g h n j w x a b one is_a is_b is_w =
    let e : sum_below n (λ i. a i * b i) * w ≡ w * sum_below n (λ i. a i * b i) = omega arith in
    mod_trans (mod_of_eq (e ∙ sym (sum_below-mul n w (λ i. a i * b i))))
    (mod_trans (sum_below-congruent n (λ i. w * (a i * b i)) (λ i. part * (x i * g ^ (i * j)))
    (λ i l. let e : w * (a i * b i) ≡ a i * b i * w = omega arith in
    mod_trans (mod_of_eq e) (term_by_weights m part g h i j (x i) (a i) (b i) w one (is_a i l) (is_b i l) is_w)))
    (mod_of_eq (sum_below-mul n part (λ i. x i * g ^ (i * j)))))

-- the coefficient at n - 1 + j of the product of the list in reverse
reversed_product : (n j : ℕ) (us bs : List ℕ) → length us ≡ n → j < n
    → sum_below (n - 1 + j + 1) (λ p. get_or (reverse us) p 0 * get_or bs (n - 1 + j - p) 0)
    ≡ sum_below n (λ i. get_or us i 0 * get_or bs (i + j) 0)
reversed_product n j us bs l within =
    let f = λ (p : ℕ). get_or (reverse us) p 0 * get_or bs (n - 1 + j - p) 0 in
    sym (no_back (reverse us) bs (n - 1 + j) n (omega arith) (λ k. omega (arith, length-reverse us)))
    ∙ sym (sum_below-reversed n f)
    ∙ sum_below-same n (λ i. f (n - 1 - i)) (λ i. get_or us i 0 * get_or bs (i + j) 0)
    (λ i k. search (arith, get_or-reverse))

-- an entry of the transform, from the lists that are multiplied
pub entry_convolved : (m part g h n j s v : ℕ) (xs ws us bs : List ℕ) → (g * h) % m ≡ 1 % m
    → length us ≡ n → j < n
    → ((k : ℕ) → k < n → get_or ws k 0 ≡ (1 * h ^ choose_two k) % m)
    → ((k : ℕ) → k < 2 * n - 1 → get_or bs k 0 ≡ (part * g ^ choose_two k) % m)
    → ((i : ℕ) → i < n → get_or us i 0 ≡ (get_or xs i 0 * get_or ws i 0) % m)
    → s ≡ product_entry m (reverse us) bs (n - 1 + j)
    → v ≡ (s * get_or ws j 0) % m
    → v ≡ scaled_transform m part g n (λ i. get_or xs i 0) j
entry_convolved m part g h n j s v xs ws us bs inverse l within is_w is_b is_a is_s is_v =
    let x = λ (i : ℕ). get_or xs i 0 in
    let w = get_or ws j 0 in
    let weight = λ (k : ℕ) (l : k < n). let e : 1 * h ^ choose_two k ≡ h ^ choose_two k = omega arith in
    let is : Congruent m (get_or ws k 0) (h ^ choose_two k) =
    mod_trans (mod_of_eq (is_w k l)) (mod_trans (residue_of (1 * h ^ choose_two k)) (mod_of_eq e)) in is in
    let sum = sum_below n (λ i. get_or us i 0 * get_or bs (i + j) 0) in
    let is_sum : s ≡ sum % m = is_s ∙ ap (λ v. v % m) (reversed_product n j us bs l within) in
    let all = sum_by_weights m part g h n j w x (λ i. get_or us i 0) (λ i. get_or bs (i + j) 0) (record {
      same =
          inverse;
    })
    (λ i l. mod_trans (mod_of_eq (is_a i l)) (mod_trans (residue_of (x i * get_or ws i 0))
    (mod_mul (mod_refl (x i)) (weight i l))))
    (λ i l. mod_trans (mod_of_eq (is_b (i + j) (omega arith))) (residue_of (part * g ^ choose_two (i + j))))
    (weight j within) in
    is_v ∙ ap (λ s. (s * w) % m) is_sum ∙ (mod_trans (mod_mul (residue_of sum) (mod_refl w)) all).same

-- the room for the product, by other names for the lengths
pub same_room : (xs ys words table a b c : ℕ) → xs ≡ a → ys ≡ b → words ≡ c → HasProductRoom xs ys words table
    → HasProductRoom a b c table
same_room xs ys words table a b c is_xs is_ys is_words room = search arith
