-- The remainders below block 1 of the tree, in the words of the standards.
use Rattle.std.proofs.Common.{◌≡◌, ℕ, suc, ◌+◌, ◌-◌, ◌*◌, ◌/◌, ◌%◌, ◌^◌, ◌<◌, ◌≤◌, ◌↔◌, List, length, slice_index, refl}
use Rattle.std.proofs.Common.{sym, ◌∙◌, ap, arith}
use Rattle.std.proofs.Math.Nat.{two-pow-succ, mod-eq_of_lt, mod-add-mod, add-mul-mod_self_right, mod-mod, mod-lt}
use Rattle.std.proofs.Math.Nat.{mul-le-mul_right}
use Rattle.std.proofs.lemmas.Nat.{div-mul-add, mod-mul-add, mul-pow, pow-add, pow_pos}
use Rattle.std.proofs.lemmas.List.{map-id}
use Rattle.num_modular.specs.Congruence.{Congruent}
use Rattle.num_modular.specs.Sums.{sum_below}
use Rattle.num_modular.specs.NumberLaws.{mod_of_eq, mod_refl, mod_sym, mod_trans, mod_add, mod_mul, mod_pow, residue_of}
use Rattle.num_modular.specs.NumberLaws.{one-pow, pow-mul, sum_below-same, sum_below-congruent, sum_below-mul}
use Rattle.num_modular.specs.Orders.{bits_reversed}
use Rattle.num_modular.specs.Transforms.{Suits, transform}
use Rattle.num_modular.specs.Factors.{AllFactors}
use Rattle.num_modular.specs.Tables.{IsTable}
use Rattle.num_modular.specs.PlanLaws.{table_of, bits_reversed_below, bits_reversed_of_high, bits_reversed_twice}
use Rattle.num_modular.specs.PlanLaws.{block_one_is_negacyclic, remainders_of_product}
use Rattle.num_modular.specs.Plans.{numbers, constant, AreTwiddles, AreRemainders}
use Rattle.num_modular.specs.PlanProducts.{coefficient, product_modulo, AreProducts}
use Rattle.num_modular.specs.Polynomials.{polynomial_at}
use Rattle.lattice_rings.specs.Rings.{IsRingProduct}

-- words of 32 bits are their own numbers
own_numbers : (w : List ℕ) → numbers (λ x. x) w ≡ slice_index w
own_numbers w = ap (λ l. slice_index l) (map-id w)

-- the table as the twiddle factors
pub AreTwiddles-from_powers : (m g s count : ℕ) (w : ℕ → ℕ) → Suits m g (2 ^ suc s) → count ≡ 2 ^ s
    → ((k : ℕ) → k < count → w k ≡ g ^ bits_reversed s k % m) → AreTwiddles m g (suc s) count w
AreTwiddles-from_powers m g s count w suits is entry = search (arith, two-pow-succ)

-- the powers of a root that suits twice 2^s entries are its twiddle factors
pub powers_are_twiddles : (m g s : ℕ) → Suits m g (2 ^ suc s)
    → AreTwiddles m g (suc s) (2 ^ s) (λ k. g ^ bits_reversed s k % m)
powers_are_twiddles m g s suits =
    AreTwiddles-from_powers m g s (2 ^ s) (λ k. g ^ bits_reversed s k % m) suits refl (λ k l. refl)

-- a table that holds the powers of a root that suits is the root's
pub root_table : {F : Type 0} {q g m : ℕ} (value quotient : F → ℕ) (s : ℕ) (table : List F) → Suits q g (2 * 2 ^ s)
    → m ≡ q → length table ≡ 2 ^ s → AllFactors 4294967296 q value quotient table
    → ((k : ℕ) → k < 2 ^ s → numbers value table k ≡ g ^ bits_reversed s k % q)
    → Suits m g (2 * length table) × IsTable 4294967296 m g value quotient table
root_table {q = q} {g = g} value quotient s table suits is count factors powers =
    let wide : Suits q g (2 * length table) = rw count suits in
    let entry = λ (k : ℕ) (l : k < length table). powers k (omega (arith, l, count)) in
    rw is (wide, table_of 4294967296 q g s value quotient table count wide factors entry)

-- the modulus m, the root r and the exponent b of the plan that a ring's calls use, and the number n of blocks
pub record IsRingPlan (q g s m r b n : ℕ) : Type 0 where
  pub modulus : m ≡ q
  pub root : r ≡ g
  pub exponent : b ≡ suc s
  pub count : n ≡ 2 ^ s

by_ring : {q g s m r b n : ℕ} (last : ℕ) (x y : ℕ → ℕ) → IsRingPlan q g s m r b n
    → AreRemainders m r b 1 n last x y ↔ AreRemainders q g (suc s) 1 (2 ^ s) last x y
by_ring {q} {g} {s} {m} {r} {b} {n} last x y ring = search arith

-- the constant of block j below block 1
pub constant_is : (g s j : ℕ) → j < 2 ^ s → constant g (suc s) (1 * 2 ^ s + j) ≡ g ^ (2 * bits_reversed s j + 1)
constant_is g s j below =
    let turn : 1 * 2 ^ s + j ≡ j + 1 * 2 ^ s = omega arith in
    ap (λ v. g ^ bits_reversed (suc s) v) turn ∙ ap (λ e. g ^ e) (bits_reversed_of_high s j 1 below (omega arith))

-- entry i of remainder j is the value of every last-th coefficient from place i on
pub record AreValues (m g s last : ℕ) (x y : ℕ → ℕ) : Type 0 where
  pub each : (j i : ℕ) → j < 2 ^ s → i < last
      → y (j * last + i) ≡ polynomial_at (2 ^ s) (λ k. x (k * last + i)) (g ^ (2 * bits_reversed s j + 1)) % m

remainders_are_values : (m g s last : ℕ) (x y : ℕ → ℕ)
    → AreRemainders m g (suc s) 1 (2 ^ s) last x y ↔ AreValues m g s last x y
remainders_are_values m g s last x y = search (arith, constant_is)

-- equal coefficients, equal values
pub value_same : (m n c : ℕ) (x f : ℕ → ℕ) → ((k : ℕ) → k < n → x k ≡ f k)
    → polynomial_at n x c % m ≡ polynomial_at n f c % m
value_same m n c x f same =
    ap (λ v. v % m) (sum_below-same n (λ k. x k * c ^ k) (λ k. f k * c ^ k) (λ k l. ap (λ v. v * c ^ k) (same k l)))

-- residues are their own residues
pub AreValues-of_residues : (m g s last : ℕ) (x y : ℕ → ℕ) → AreValues m g s last x y
    → AreValues m g s last x (λ i. y i % m)
AreValues-of_residues m g s last x y are = record {
  each = λ j i lj li. ap (λ v. v % m) (are.each j i lj li)
      ∙ mod-mod _ m;
}

-- the powers of g and of its inverse h in a term, G being congruent to g^2
powers_of_term : {m : ℕ} (g h G r k part u : ℕ) → Congruent m (g * h) 1 → Congruent m G (g * g)
    → Congruent m (part * h ^ k * u * (g ^ (2 * r + 1)) ^ k) (part * (u * G ^ (k * r)))
powers_of_term {m} g h G r k part u inverse square =
    let e : (2 * r + 1) * k ≡ k + (k * r + k * r) = omega arith in
    let a : (g ^ (2 * r + 1)) ^ k ≡ g ^ k * (g * g) ^ (k * r) =
    sym (pow-mul g (2 * r + 1) k) ∙ ap (λ n. g ^ n) e ∙ pow-add g k (k * r + k * r)
    ∙ ap (λ v. g ^ k * v) (pow-add g (k * r) (k * r) ∙ sym (mul-pow g g (k * r))) in
    let b : part * h ^ k * u * (g ^ k * (g * g) ^ (k * r)) ≡ g ^ k * h ^ k * (part * (u * (g * g) ^ (k * r))) =
    omega arith in
    let o : 1 * (part * (u * G ^ (k * r))) ≡ part * (u * G ^ (k * r)) = omega arith in
    let one : Congruent m (g ^ k * h ^ k) 1 =
    mod_trans (mod_of_eq (sym (mul-pow g h k))) (mod_trans (mod_pow k inverse) (mod_of_eq (one-pow k))) in
    mod_trans (mod_of_eq (ap (λ v. part * h ^ k * u * v) a ∙ b))
    (mod_trans (mod_mul one (mod_mul (mod_refl part) (mod_mul (mod_refl u) (mod_pow (k * r) (mod_sym square)))))
    (mod_of_eq o))

-- the polynomial whose values are given, h being the inverse of g, H that of g^2 and part that of the number of blocks
abbrev pub inverse_polynomial : ℕ → ℕ → ℕ → ℕ → ℕ → ℕ → (ℕ → ℕ) → ℕ → ℕ
inverse_polynomial m h H s last part y p =
    (part * h ^ (p / last) * transform m H (2 ^ s) (λ q. y (bits_reversed s q * last + p % last)) (p / last)) % m

pub inverse_polynomial_values : {m : ℕ} (g h G H s last part : ℕ) (y : ℕ → ℕ) → Congruent m (g * h) 1
    → Congruent m G (g * g)
    → Congruent m (2 ^ s * part) 1
    → ((v : ℕ → ℕ) (k : ℕ) → k < 2 ^ s → Congruent m (transform m G (2 ^ s) (transform m H (2 ^ s) v) k) (2 ^ s * v k))
    → ((j i : ℕ) → j < 2 ^ s → i < last → y (j * last + i) < m)
    → AreValues m g s last (inverse_polynomial m h H s last part y) y
inverse_polynomial_values {m} g h G H s last part y inverse square of_number back below = record {
  each = λ j i lj li.
      let r = bits_reversed s j in
      let c = g ^ (2 * r + 1) in
      let n = 2 ^ s in
      let v = λ (e q : ℕ). y (bits_reversed s q * last + e) in
      let u = transform m H n (v i) in
      let x = inverse_polynomial m h H s last part y in
      let is : (k : ℕ) → x (k * last + i) ≡ (part * h ^ k * u k) % m = search (arith, div-mul-add, mod-mul-add) in
      let f = λ (k : ℕ). x (k * last + i) * c ^ k in
      let w = λ (k : ℕ). u k * G ^ (k * r) in
      let all : Congruent m (sum_below n f) (sum_below n (λ k. part * w k)) =
      sum_below-congruent n f (λ k. part * w k)
      (λ k l. mod_trans (mod_mul (mod_trans (mod_of_eq (is k)) (residue_of (part * h ^ k * u k))) (mod_refl (c ^ k)))
      (powers_of_term g h G r k part (u k) inverse square)) in
      let whole : Congruent m (part * sum_below n w) (part * (n * v i r)) =
      mod_mul (mod_refl part)
      (mod_trans (mod_sym (residue_of (sum_below n w))) (back (v i) r (bits_reversed_below s j))) in
      let place : v i r ≡ y (j * last + i) = ap (λ q. y (q * last + i)) (bits_reversed_twice s j lj) in
      let turn : part * (n * v i r) ≡ n * part * v i r = omega arith in
      let o : 1 * v i r ≡ v i r = omega arith in
      let end : Congruent m (sum_below n f) (y (j * last + i)) =
      search (arith, mod_trans, mod_of_eq, sum_below-mul, mod_mul, mod_refl) in
      sym (mod-eq_of_lt (below j i lj li)) ∙ sym end.same;
}

-- what is past the coefficients, taken away, is added with m - 1
nothing_left : (m a b : ℕ) → 0 < m → (a + b + (m - 1) * b) % m ≡ a % m
nothing_left m a b some =
    let o : m - 1 + 1 ≡ m = omega (arith, some) in
    let s : a + b + (m - 1) * b ≡ a + b * m = let f = ap (λ v. b * v) o in omega (arith, f) in
    ap (λ v. v % m) s ∙ add-mul-mod_self_right a b m

taken_away : (m a b : ℕ) → 0 < m → ((a + (m - 1) * b) % m + b) % m ≡ a % m
taken_away m a b some =
    let s : a + (m - 1) * b + b ≡ a + b + (m - 1) * b = omega arith in
    mod-add-mod (a + (m - 1) * b) m b ∙ ap (λ v. v % m) s ∙ nothing_left m a b some

added_to : (m a b p : ℕ) → p < m → (p + b) % m ≡ a % m → (a + (m - 1) * b) % m ≡ p
added_to m a b p below is =
    let known : Congruent m a (p + b) = record { same = sym is } in
    (mod_add known (mod_refl ((m - 1) * b))).same ∙ nothing_left m p b (omega (arith, below)) ∙ mod-eq_of_lt below

-- what `split` says of words, in the words of the standards
pub AreValues-from_split : {q g s m r b n : ℕ} (last : ℕ) (xs ys : List ℕ) → IsRingPlan q g s m r b n
    → AreRemainders m r b 1 n last (numbers (λ x. x) xs) (numbers (λ x. x) ys)
    → AreValues q g s last (slice_index xs) (slice_index ys)
AreValues-from_split {q} {g} {s} last xs ys ring are =
    (remainders_are_values q g s last (slice_index xs) (slice_index ys)).0 (rw (← own_numbers xs, ← own_numbers ys)
    ((by_ring last _ _ ring).0 are))

-- what `join` says of words
pub join_entries : {q g s m r b n : ℕ} (last : ℕ) (x : ℕ → ℕ) (ys zs : List ℕ) → IsRingPlan q g s m r b n
    → AreValues q g s last x (slice_index ys)
    → (AreRemainders m r b 1 n last x (λ i. numbers (λ v. v) ys i % m)
    → (i : ℕ) → i < length ys → numbers (λ v. v) zs i ≡ x i % m)
    → (i : ℕ) → i < length ys → slice_index zs i ≡ x i % q
join_entries {q} {g} {s} {m} last x ys zs ring are known i l =
    let own : AreRemainders q g (suc s) 1 (2 ^ s) last x (λ i. numbers (λ v. v) ys i % m) =
    simp (map-id, ring.modulus)
    ((remainders_are_values q g s last x _).1 (AreValues-of_residues q g s last x (slice_index ys) are)) in
    simp (map-id, ring.modulus) at (known ((by_ring last x (λ i. numbers (λ v. v) ys i % m) ring).1 own) i l)

-- the product in the ring, by a formula
pub ring_product : (q : ℕ) (x y : ℕ → ℕ) → 0 < q → IsRingProduct q x y (product_modulo q 256 (q - 1) x y)
ring_product q x y some = search (arith, mod-lt, taken_away)

pub ring_product_same : (q : ℕ) (x y p r : ℕ → ℕ) → IsRingProduct q x y p → ((e : ℕ) → e < 256 → r e ≡ p e % q)
    → IsRingProduct q x y r
ring_product_same q x y p r is same = search (arith, mod-eq_of_lt)

-- what `multiply` says of words
pub multiplied_words : {q m : ℕ} (xs ys zs : List ℕ) → m ≡ q
    → ((i : ℕ) → i < length xs → numbers (λ x. x) zs i ≡ (numbers (λ x. x) xs i * numbers (λ x. x) ys i) % m)
    → (i : ℕ) → i < length xs → slice_index zs i ≡ (slice_index xs i * slice_index ys i) % q
multiplied_words {q} {m} xs ys zs is known i l = simp (map-id, is) at (known i l)

-- the product of two transforms is the transform of the product
pub product_transformed : (q g s last : ℕ) (x y p u v r : ℕ → ℕ) → 0 < q → 2 ^ s * last ≡ 256
    → Suits q g (2 ^ suc s) → IsRingProduct q x y p → AreValues q g s last x u → AreValues q g s last y v
    → AreProducts q g (suc s) 1 (2 ^ s) last u v r → AreValues q g s last p r
product_transformed q g s last x y p u v r some size suits product first second products =
    let n = 2 ^ s in
    let twiddles = powers_are_twiddles _ _ _ suits in
    let z = product_modulo q (n * last) (constant g (suc s) 1) x y in
    let is : (e : ℕ) → e < 256 → z e ≡ p e = λ e l.
    ap (λ k. product_modulo q k (constant g (suc s) 1) x y e) size
    ∙ block_one_is_negacyclic _ e _ _ _ _ _ _ some (pow_pos _) twiddles
    ∙ added_to _ (coefficient 256 x y e) (coefficient 256 x y (e + 256)) (p e) (product.below e l) (product.each e l) in
    let room : (1 + 1) * (n / 2) ≤ n = omega arith in
    let are = (remainders_are_values _ _ _ _ z _).0 (remainders_of_product _ _ _ _ _ _ _ _ _ _ _ _ (s, refl) room
    twiddles ((remainders_are_values _ _ _ _ _ _).1 first) ((remainders_are_values _ _ _ _ _ _).1 second) products) in
    record {
      each = λ j i lj li.
          let value = products.each j i lj li in
          value ∙ sym (mod-mod _ _) ∙ ap (λ a. a % q) (sym value) ∙ are.each j i lj li
          ∙ value_same _ _ (g ^ (2 * bits_reversed s j + 1)) _ _
          (λ k lk.
          let most : (k + 1) * last ≤ n * last = mul-le-mul_right _ (let a : k + 1 ≤ n = omega arith in a) in
          is (k * last + i) (omega (arith, most, size, li)));
    }
