-- Numbers in the mixed radix of moduli: one more digit, an order, and the digit that gives a residue.
use Rattle.std.proofs.Common.{◌≡◌, ℕ, zero, suc, ◌+◌, ◌*◌, ◌%◌, ◌<◌, ◌↔◌, List, slice_index, length, get_or, arith, sym}
use Rattle.std.proofs.Common.{ap, ◌∙◌, inl, inr}
use Rattle.std.proofs.Math.Nat.{mul-le-mul_left, add-mod-mod, mod-add-mod}
use Rattle.std.proofs.lemmas.Bool.{cases_lt}
use Rattle.num_modular.specs.Divisors.{Coprime}
use Rattle.num_modular.specs.Inverses.{HasInverse}
use Rattle.num_modular.specs.Products.{product_below}
use Rattle.num_modular.specs.Sums.{sum_below}
use Rattle.num_modular.specs.Systems.{range_below}
use Rattle.num_modular.specs.ProductLaws.{has_product, product-more}
use Rattle.num_modular.specs.SystemLaws.{within}
use Rattle.residue_numbers.specs.MixedRadix.{IsCoprimeSystem, mixed_below}

-- the product with one modulus more
pub range_more : (ms : List ℕ) (place next : ℕ) → place ≡ next + 1
    → range_below place ms ≡ range_below next ms * get_or ms next 0
range_more ms place next one = ap (λ k. range_below k ms) one ∙ product-more (slice_index ms) next

-- digits below the moduli denote a number below their product
pub mixed_within : (n : ℕ) (ms ds : List ℕ) → ((i : ℕ) → i < n → get_or ds i 0 < get_or ms i 0)
    → mixed_below n ms ds < range_below n ms
unfolding sum_below product_below
mixed_within zero ms ds below = omega arith
mixed_within (suc n) ms ds below =
    let before = mixed_within n ms ds (λ i l. below i (omega arith)) in
    let inside = within (range_below n ms) (get_or ms n 0) (mixed_below n ms ds) (get_or ds n 0) before
    (below n (omega arith)) in
    omega (arith, inside)

-- the first digit from the top that differs decides
higher_digit_decides : (p a b d e : ℕ) → a < p → d < e → a + d * p < b + e * p
higher_digit_decides p a b d e l h = let f = mul-le-mul_left p h in omega (arith, f, l)

pub mixed_less : (n k : ℕ) (ms ds es : List ℕ) → k < n → ((i : ℕ) → i < k → get_or ds i 0 < get_or ms i 0)
    → get_or ds k 0 < get_or es k 0 → ((i : ℕ) → k < i → i < n → get_or ds i 0 ≡ get_or es i 0)
    → mixed_below n ms ds < mixed_below n ms es
unfolding sum_below
mixed_less zero k ms ds es inside below less same = omega arith
mixed_less (suc n) k ms ds es inside below less same = elim (cases_lt k n) [
  | inl l ↦
      let before = mixed_less n k ms ds es l below less (λ i h m. same i h (omega arith)) in
      grind (arith, same n l)
  | inr h ↦
      let here : n ≡ k = omega arith in let top : get_or ds n 0 < get_or es n 0 = rw here less in
      let inside = mixed_within n ms ds (λ i l. below i (omega (arith, l, here))) in
      omega (arith, higher_digit_decides (range_below n ms) (mixed_below n ms ds) (mixed_below n ms es) _ _ inside top)
]

-- in a system the product of the moduli before one has an inverse modulo it
pub unit_at : (ms : List ℕ) (n : ℕ) → ((m a : ℕ) → 0 < m → HasInverse m a ↔ Coprime a m)
    → IsCoprimeSystem ms → n < length ms → HasInverse (get_or ms n 0) (range_below n ms)
unit_at ms n coprime system h =
    let m = get_or ms n 0 in
    let positive : 0 < m = system.positive n h in
    has_product m n (slice_index ms) positive (λ j l. (coprime m (get_or ms j 0) positive).1 (system.coprime n j l h))

-- the digit t gives the residue r
pub digit_gives : (m number range t r v s : ℕ) → v ≡ number % m → (range * t) % m ≡ s % m → (s + v) % m ≡ r % m
    → (number + range * t) % m ≡ r % m
digit_gives m number range t r v s known product difference =
    let turn : number + range * t ≡ range * t + number = omega arith in
    ap (λ n. n % m) turn ∙ sym (mod-add-mod (range * t) m number) ∙ ap (λ n. (n + number) % m) product
    ∙ mod-add-mod s m number ∙ sym (add-mod-mod s number m) ∙ ap (λ n. (s + n) % m) (sym known) ∙ difference
