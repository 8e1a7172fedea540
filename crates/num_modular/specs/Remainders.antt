-- The rules that remove nested remainders, for `#[tactic(auto, using(num_modular::specs::Remainders::remainders))]`
-- and for `simp` in an answer. The names are the library's own words.
use Rattle.std.proofs.Common.{◌≡◌, ℕ, ◌+◌, ◌*◌, ◌%◌, ◌^◌, sym, ◌∙◌, ap}
use Rattle.std.proofs.Math.Nat.{mod-mod, mod-add-mod, add-mod-mod}
use Rattle.std.proofs.lemmas.Nat.{mul-mod_first, mul-mod_second, pow-mod}
use Rattle.modular_word.proofs.Remainders as words

-- a remainder as a factor, as the base of a power, as the first term of a sum, and as both of its terms
pub ruleset remainders = (words.remainders)

-- a sum may replace its first term by a congruent one
first_term : (a b c m : ℕ) → a % m ≡ b % m → (a + c) % m ≡ (b + c) % m
first_term a b c m e = sym (mod-add-mod a m c) ∙ ap (λ v. (v + c) % m) e ∙ mod-add-mod b m c

-- a sum may replace its second term by a congruent one
second_term : (a b c m : ℕ) → a % m ≡ b % m → (c + a) % m ≡ (c + b) % m
second_term a b c m e = sym (add-mod-mod c a m) ∙ ap (λ v. (c + v) % m) e ∙ add-mod-mod c b m

-- in a sum, a product whose first factor is a remainder
pub product_and_term : (a b c m : ℕ) → (a % m * b + c) % m ≡ (a * b + c) % m
product_and_term a b c m = first_term (a % m * b) (a * b) c m (mul-mod_first a b m)

-- in a sum, a product whose second factor is a remainder
pub product_and_term_second : (a b c m : ℕ) → (a * (b % m) + c) % m ≡ (a * b + c) % m
product_and_term_second a b c m = first_term (a * (b % m)) (a * b) c m (mul-mod_second a b m)

-- where the product is the second term, its first factor
pub term_and_product : (a b c m : ℕ) → (c + a % m * b) % m ≡ (c + a * b) % m
term_and_product a b c m = second_term (a % m * b) (a * b) c m (mul-mod_first a b m)

-- where the product is the second term, its second factor
pub term_and_product_second : (a b c m : ℕ) → (c + a * (b % m)) % m ≡ (c + a * b) % m
term_and_product_second a b c m = second_term (a * (b % m)) (a * b) c m (mul-mod_second a b m)

-- the first of three terms
pub first_of_three : (a b c m : ℕ) → (a % m + b + c) % m ≡ (a + b + c) % m
first_of_three a b c m = first_term (a % m + b) (a + b) c m (mod-add-mod a m b)

-- the second of three terms
pub second_of_three : (a b c m : ℕ) → (a + b % m + c) % m ≡ (a + b + c) % m
second_of_three a b c m = first_term (a + b % m) (a + b) c m (add-mod-mod a b m)

-- the base of a power that is the first factor
pub power_and_factor : (a b k m : ℕ) → ((a % m) ^ k * b) % m ≡ (a ^ k * b) % m
power_and_factor a b k m =
    sym (mul-mod_first ((a % m) ^ k) b m) ∙ ap (λ v. (v * b) % m) (pow-mod a k m) ∙ mul-mod_first (a ^ k) b m

-- the base of a power that is the second factor
pub factor_and_power : (a b k m : ℕ) → (b * (a % m) ^ k) % m ≡ (b * a ^ k) % m
factor_and_power a b k m =
    sym (mul-mod_second b ((a % m) ^ k) m) ∙ ap (λ v. (b * v) % m) (pow-mod a k m) ∙ mul-mod_second b (a ^ k) m

-- what these don't cover: a remainder of a remainder, one as the second term of a sum or in a sum of three terms,
-- and one in a product or a power that is a term or a factor. Where this set is needed, name it besides the first.
pub ruleset inner_remainders = (
  mod-mod,
  add-mod-mod,
  product_and_term,
  product_and_term_second,
  term_and_product,
  term_and_product_second,
  first_of_three,
  second_of_three,
  power_and_factor,
  factor_and_power,
)
