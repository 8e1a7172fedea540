-- Remainders modulo a product, seen modulo a factor of it: products and differences of encodings.
use Rattle.std.proofs.Common.{◌≡◌, ℕ, ◌+◌, ◌*◌, ◌%◌, ◌<◌, List, slice_index, get_or, length, ap, sym, refl, ◌∙◌, arith}
use Rattle.std.proofs.Common.{pos, ◌-ℤ◌, ℤ, negsuc}
use Rattle.std.proofs.Math.Nat.{mod-lt, mod-mod, mod-add-mod, add-mod-mod}
use Rattle.std.proofs.lemmas.Nat.{mul-mod}
use Rattle.num_modular.specs.NumberLaws.{difference_and, mod_add_cancel, equal_below, mod_of_multiple}
use Rattle.num_modular.specs.Residues.{residue}
use Rattle.num_modular.specs.Systems.{range_of}
use Rattle.num_modular.specs.ProductLaws.{product-zero}
use Rattle.num_modular.specs.SystemLaws.{divides, grows}

-- a factor m of the range, both above 0
pub record IsFactor (range m : ℕ) : Type 0 where
  pub times : ℕ
  pub is : range ≡ m * times
  pub wide : 0 < range
  pub positive : 0 < m

-- the remainder modulo the range is congruent to the number
pub remainder_within : {range m : ℕ} → IsFactor range m → (a : ℕ) → a % range % m ≡ a % m
remainder_within {range} {m} f a = ap (λ k. a % k % m) f.is ∙ mod_of_multiple m f.times a

-- the sum, the product and the difference of residues are the residues of those modulo the range
pub sum_within : {range m : ℕ} → IsFactor range m → (x y a b : ℕ) → x % m ≡ a → y % m ≡ b
    → (a + b) % m ≡ (x + y) % range % m
sum_within f x y a b p q = search (arith, mod-add-mod, add-mod-mod, remainder_within)

pub product_within : {range m : ℕ} → IsFactor range m → (x y a b : ℕ) → x % m ≡ a → y % m ≡ b
    → (a * b) % m ≡ (x * y) % range % m
product_within f x y a b p q = search (arith, mul-mod, remainder_within)

residue_below_modulus : (m : ℕ) (z : ℤ) → 0 < m → residue m z < m
residue_below_modulus m (pos n) h = mod-lt n h
residue_below_modulus m (negsuc n) h = omega arith

pub difference_within : {range m : ℕ} → IsFactor range m → (x y a b : ℕ) → x % m ≡ a → y % m ≡ b
    → residue m (pos a -ℤ pos b) ≡ residue range (pos x -ℤ pos y) % m
difference_within {range} {m} f x y a b p q =
    let r = residue range (pos x -ℤ pos y) in
    equal_below (residue_below_modulus m (pos a -ℤ pos b) f.positive) (mod-lt r f.positive) (mod_add_cancel b record {
      same = difference_and m a b f.positive ∙ ap (λ n. n % m) (sym p) ∙ mod-mod x m ∙ sym (remainder_within f x)
          ∙ sym (ap (λ n. n % m) (difference_and range x y f.wide)) ∙ sym (sum_within f r y (r % m) b refl q);
    })

-- the moduli are above 0
abbrev pub ArePositive : List ℕ → Type 0
ArePositive moduli = (i : ℕ) → i < length moduli → 0 < get_or moduli i 0

-- so their product is, of which each is a factor
pub range_positive : (moduli : List ℕ) → ArePositive moduli → 0 < range_of moduli
range_positive moduli positive =
    let one = product-zero (slice_index moduli) in
    let most = grows 0 (length moduli) moduli positive (omega arith) in
    omega (arith, one, most)

pub modulus_is_factor : (moduli : List ℕ) → ArePositive moduli → (i : ℕ) → i < length moduli
    → IsFactor (range_of moduli) (get_or moduli i 0)
modulus_is_factor moduli positive i h =
    let (k, e) = divides (length moduli) i moduli h in
    record { times = k; is = e; wide = range_positive moduli positive; positive = positive i h }
