-- The products of the remainders modulo X^2 - c, one after another in place.
use Rattle.std.proofs.Common.{◌≡◌, ◌≢◌, ℕ, ◌+◌, ◌-◌, ◌*◌, ◌/◌, ◌%◌, ◌^◌, ◌<◌, ◌≤◌, List, length, get_or, inl, inr, refl}
use Rattle.std.proofs.Common.{◌∙◌, ap, arith, get_or-set_same, get_or-set_other}
use Rattle.std.proofs.Math.ListN.{set, length-set}
use Rattle.std.proofs.lemmas.Bool.{cases_eq}
use Rattle.num_modular.specs.Congruence.{Congruent}
use Rattle.num_modular.specs.NumberLaws.{mod_of_eq, mod_refl, mod_trans, mod_add, mod_mul}
use Rattle.num_modular.specs.Orders.{bits_reversed}
use Rattle.num_modular.specs.Plans.{numbers, constant}
use Rattle.num_modular.specs.PlanLaws.{IsPairOfConstants, pair_of_constants}
use Rattle.lattice_rings.specs.declared.ml_kem.Ring.{Ring}
use Rattle.lattice_rings.proofs.Blocks.{constant_is, AreTwiddles-from_powers}
use Rattle.lattice_rings.proofs.Kem.{kem_zeta_suits}

-- the entry of the table for the remainders 2 * h and 2 * h + 1
pair_at : (r : Ring) (h : ℕ) → h < 64
    → IsPairOfConstants 3329 17 8 (64 + h) (numbers (λ f. f.value) r.table (64 + h))
pair_at r h below =
    pair_of_constants 17 8 128 (64 + h) (numbers (λ f. f.value) r.table)
    (AreTwiddles-from_powers 3329 17 7 128 (numbers (λ f. f.value) r.table) kem_zeta_suits refl r.powers) (omega arith)

pub even_square_congruent : (r : Ring) (i : ℕ) → i < 128 → i % 2 ≡ 0
    → Congruent 3329 (numbers (λ f. f.value) r.table (64 + i / 2)) (17 ^ (2 * bits_reversed 7 i + 1))
even_square_congruent r i below even =
    let e : 2 * (64 + i / 2) ≡ 1 * 128 + i = omega arith in
    mod_trans (pair_at r (i / 2) (omega arith)).even (mod_of_eq (ap (constant 17 8) e ∙ constant_is 17 7 i below))

pub odd_square_congruent : (r : Ring) (i : ℕ) → i < 128 → i % 2 ≢ 0
    → Congruent 3329 (3329 - numbers (λ f. f.value) r.table (64 + i / 2)) (17 ^ (2 * bits_reversed 7 i + 1))
odd_square_congruent r i below odd =
    let e : 2 * (64 + i / 2) + 1 ≡ 1 * 128 + i = omega arith in
    let w = numbers (λ f. f.value) r.table (64 + i / 2) in
    mod_trans ((pair_at r (i / 2) (omega arith)).odd (3329 - w) (omega arith))
    (mod_of_eq (ap (constant 17 8) e ∙ constant_is 17 7 i below))

-- the first i remainders of p are the products of those of x and y, and the others are those of x
pub record ProductsBelow (i : ℕ) (x y p : List ℕ) : Type 0 where
  pub below : (k : ℕ) → get_or p k 0 < 3329
  pub constant : (k : ℕ) → k < i → get_or p (2 * k) 0
      ≡ (get_or x (2 * k) 0 * get_or y (2 * k) 0
      + get_or x (2 * k + 1) 0 * get_or y (2 * k + 1) 0 * 17 ^ (2 * bits_reversed 7 k + 1)) % 3329
  pub linear : (k : ℕ) → k < i → get_or p (2 * k + 1) 0
      ≡ (get_or x (2 * k) 0 * get_or y (2 * k + 1) 0 + get_or x (2 * k + 1) 0 * get_or y (2 * k) 0) % 3329
  pub kept : (k : ℕ) → 2 * i ≤ k → get_or p k 0 ≡ get_or x k 0

-- two writes
written_elsewhere : (p : List ℕ) (e f k a b : ℕ) → k ≢ e → k ≢ f → get_or (set (set p e a) f b) k 0 ≡ get_or p k 0
written_elsewhere p e f k a b ne nf = get_or-set_other (set p e a) f k b 0 nf ∙ get_or-set_other p e k a 0 ne

pub written_pair_extends_products : (i a b c : ℕ) (x y p : List ℕ) → 2 * i + 1 < length p
    → Congruent 3329 c (17 ^ (2 * bits_reversed 7 i + 1)) → ProductsBelow i x y p
    → a ≡ (get_or p (2 * i) 0 * get_or y (2 * i) 0 + get_or p (2 * i + 1) 0 * get_or y (2 * i + 1) 0 * c) % 3329
    → b ≡ (get_or p (2 * i) 0 * get_or y (2 * i + 1) 0 + get_or p (2 * i + 1) 0 * get_or y (2 * i) 0) % 3329
    → ProductsBelow (i + 1) x y (set (set p (2 * i) a) (2 * i + 1) b)
written_pair_extends_products i a b c x y p within square before is_a is_b =
    let e : ℕ = 2 * i in
    let f : ℕ = 2 * i + 1 in
    let u = before.kept e (omega arith) in
    let v = before.kept f (omega arith) in
    let at_e = get_or-set_other (set p e a) f e b 0 (omega arith) ∙ get_or-set_same p e a 0 (omega arith) in
    let at_f = get_or-set_same (set p e a) f b 0 (let n = length-set p e a in omega (arith, n, within)) in
    record {
      below = search (arith, cases_eq, set, written_elsewhere);
      constant = λ k l. elim (cases_eq k i) [
        | inl s ↦ rw s (at_e ∙ is_a ∙ (mod_add (mod_mul (mod_of_eq u) (mod_refl (get_or y e 0)))
            (mod_mul (mod_mul (mod_of_eq v) (mod_refl (get_or y f 0))) square)).same)
        | inr n ↦ written_elsewhere p e f (2 * k) a b (omega arith) (omega arith) ∙ before.constant k (omega arith)
      ];
      linear = λ k l. grind (arith, cases_eq, set, mod_add, mod_mul, mod_of_eq, mod_refl, written_elsewhere) steps
          700000;
      kept = λ k l. written_elsewhere p e f k a b (omega arith) (omega arith) ∙ before.kept k (omega arith);
    }
