-- Runs of one list of commands modulo the range and modulo the moduli.
use Rattle.std.proofs.Common.{◌≡◌, ℕ, zero, suc, ◌+◌, ◌*◌, ◌%◌, ◌<◌, ◌==◌, if◌then◌else◌, List, Bool, Option, Some}
use Rattle.std.proofs.Common.{None, option_map, unwrap_or, IsSomeAnd, get_or, inl, inr, length, map, sym, ap, subst}
use Rattle.std.proofs.Common.{◌∙◌, refl, arith, pos, ◌-ℤ◌, ◌↔◌}
use Rattle.std.specs.List.{slice_get}
use Rattle.std.proofs.Math.ListN.{get_or-map}
use Rattle.std.proofs.Math.Nat.{mod-lt, mod-eq_of_lt}
use Rattle.std.proofs.Math.IntN.{+ℤ_idl}
use Rattle.std.proofs.lemmas.Bool.{cases_lt}
use Rattle.std.proofs.lemmas.Nat.{mul-mod_second, pow-mod}
use Rattle.num_modular.specs.Divisors.{Coprime}
use Rattle.num_modular.specs.Inverses.{IsInverse, IsInversion, HasInverse, inverse_of}
use Rattle.num_modular.specs.Residues.{residue}
use Rattle.num_modular.specs.declared.ring.RingCommand.{RingCommand}
use Rattle.num_modular.specs.declared.ring.RingCommand.TheVariants.{Load, Add, Sub, Mul, Neg, Sqr, Inv, Div}
use Rattle.num_modular.specs.Ring.{destination_of, outcome, value_after, value_at, inverted_by, LacksInverse}
use Rattle.num_modular.specs.Ring.{LacksInverseAt}
use Rattle.num_modular.specs.Systems.{range_of}
use Rattle.num_modular.specs.NumberLaws.{Coprime-swap, inverse_mod, inverse_from_mod}
use Rattle.num_modular.specs.ProductLaws.{has_product}
use Rattle.num_modular.specs.SystemLaws.{divides, keeps}
use Rattle.residue_numbers.proofs.Encodings.{IsFactor, remainder_within, sum_within, product_within, difference_within}
use Rattle.residue_numbers.proofs.Encodings.{ArePositive, range_positive, modulus_is_factor}

-- the laws of inverses that are taken from the library's calls
pub record InverseLaws : Type 0 where
  pub found : (m a x : ℕ) → IsInverse m a x → inverse_of m a ≡ Some x
  pub named : (m a : ℕ) → IsInversion (λ x. x) m a (inverse_of m a)
  pub coprime : (m a : ℕ) → 0 < m → HasInverse m a ↔ Coprime a m

-- the residues of the numbers that the registers start with
abbrev pub start_mod : ℕ → List ℕ → List ℕ
start_mod m numbers = map (λ n. n % m) numbers

inverse_within : {range m : ℕ} → IsFactor range m → (x a i : ℕ) → x % m ≡ a → IsInverse range x i
    → IsInverse m a (i % m)
inverse_within {m = m} f x a i p inverse = record {
  below = mod-lt i f.positive;
  one = product_within f x i a (i % m) p refl ∙ ap (λ n. n % m) inverse.one ∙ remainder_within f 1;
}

written_within : (b : Bool) (o p : Option ℕ) (x y m : ℕ) → IsSomeAnd o (λ w. p ≡ Some (w % m)) → x % m ≡ y
    → (if b then unwrap_or o x else x) % m ≡ (if b then unwrap_or p y else y)
written_within b o p x y m e h = grind (arith, unwrap_or)

-- what holds of the value in an option
some_and : {X : Type 0} {P Q : X → Type 0} (o : Option X) → ((x : X) → P x → Q x) → IsSomeAnd o P → IsSomeAnd o Q
some_and None to h = h
some_and (Some x) to h = to x h

none_of_each : {X : Type 0} {n : ℕ} {P : X → Type 0} {Q : ℕ → X → Type 0} (o : Option X)
    → ((x : X) → ((i : ℕ) → i < n → Q i x → ⊥) → P x → ⊥) → ((i : ℕ) → i < n → IsSomeAnd o (Q i) → ⊥)
    → IsSomeAnd o P → ⊥
none_of_each None from each h = h
none_of_each (Some x) from each h = from x each h

-- no command before this one lacks its inverse
abbrev pub NoneLacks : ℕ → List ℕ → List (RingCommand ℕ) → ℕ → Type 0
NoneLacks m start commands done = (at : ℕ) → at < done → LacksInverseAt m start commands at → ⊥

module _ (laws : InverseLaws) {range m : ℕ} (f : IsFactor range m) where
  -- an inverse that isn't missing is there modulo a factor too
  inverse_found : (x a : ℕ) (o : Option ℕ) → IsInversion (λ x. x) range x o → ((HasInverse range x → ⊥) → ⊥) → x % m ≡ a
      → IsSomeAnd o (λ w. inverse_of m a ≡ Some (w % m))
  inverse_found x a None is unit e = unit (λ h. is h.0 h.1)
  inverse_found x a (Some w) is unit e = laws.found m a (w % m) (inverse_within f x a w e is)

  quotient_found : (x a : ℕ) (o p : Option ℕ) → IsSomeAnd o (λ w. p ≡ Some (w % m)) → x % m ≡ a
      → IsSomeAnd (option_map (λ y. (x * y) % range) o) (λ w. option_map (λ y. (a * y) % m) p ≡ Some (w % m))
  quotient_found x a None p is e = is
  quotient_found x a (Some w) p is e = ap (option_map _) is ∙ ap Some (product_within f x w a (w % m) e refl)

  -- the result of a command modulo the range is congruent to that modulo m, where the inverse that it needs exists
  outcome_within : (V v : ℕ → ℕ) → ((r : ℕ) → V r % m ≡ v r) → (command : RingCommand ℕ)
      → (LacksInverse range V command → ⊥)
      → IsSomeAnd (outcome range V command) (λ w. outcome m v command ≡ Some (w % m))
  outcome_within V v same (Load dst n) unit = ap Some (sym (remainder_within f n))
  outcome_within V v same (Add dst a b) unit = ap Some (sum_within f (V a) (V b) (v a) (v b) (same a) (same b))
  outcome_within V v same (Sub dst a b) unit = ap Some (difference_within f (V a) (V b) (v a) (v b) (same a) (same b))
  outcome_within V v same (Mul dst a b) unit = ap Some (product_within f (V a) (V b) (v a) (v b) (same a) (same b))
  outcome_within V v same (Neg dst a) unit =
      let e : residue m (pos 0 -ℤ pos (v a)) ≡ residue range (pos 0 -ℤ pos (V a)) % m =
      difference_within f 0 (V a) 0 (v a) (mod-eq_of_lt f.positive) (same a) in
      ap Some (simp +ℤ_idl at e)
  outcome_within V v same (Sqr dst a) unit = ap Some (product_within f (V a) (V a) (v a) (v a) (same a) (same a))
  outcome_within V v same (Inv dst a) unit = inverse_found (V a) (v a) _ (laws.named range (V a)) unit (same a)
  outcome_within V v same (Div dst a b) unit =
      quotient_found (V a) (v a) _ _ (inverse_found (V b) (v b) _ (laws.named range (V b)) unit (same b)) (same a)
  outcome_within V v same _ unit = grind (arith, mul-mod_second, pow-mod, remainder_within)

  after_within : (V v : ℕ → ℕ) → ((r : ℕ) → V r % m ≡ v r) → (read : Option (RingCommand ℕ))
      → (IsSomeAnd read (LacksInverse range V) → ⊥) → (r : ℕ) → value_after range V read r % m ≡ value_after m v read r
  after_within V v same None unit r = same r
  after_within V v same (Some command) unit r =
      written_within (r == destination_of command) (outcome range V command) (outcome m v command) (V r) (v r) m
      (outcome_within V v same command unit) (same r)

  -- so the values modulo the range leave the values modulo m, as long as each inverse is there modulo the range
  pub values_within : (start : List ℕ) (commands : List (RingCommand ℕ)) (i : ℕ) → NoneLacks range start commands i
      → (r : ℕ) → value_at range start commands i r % m ≡ value_at m (start_mod m start) commands i r
  values_within start commands zero unit r =
      sym (subst (λ d. get_or (start_mod m start) r d ≡ get_or start r 0 % m) (mod-eq_of_lt f.positive)
      (get_or-map (λ n. n % m) start r 0))
  values_within start commands (suc i) unit r =
      after_within (value_at range start commands i) (value_at m (start_mod m start) commands i)
      (values_within start commands i (λ j h. unit j (omega arith))) (slice_get commands i) (unit i (omega arith)) r

  -- an inverse that doesn't exist modulo a factor of the range doesn't exist modulo the range
  pub lacks_above : (V v : ℕ → ℕ) → ((r : ℕ) → V r % m ≡ v r) → (read : Option (RingCommand ℕ))
      → IsSomeAnd read (LacksInverse m v) → IsSomeAnd read (LacksInverse range V)
  lacks_above V v same read = some_and read (λ command. some_and (inverted_by command)
      (λ r none h. none (h.0 % m, inverse_within f (V r) (v r) h.0 (same r) h.1)))

module _ (laws : InverseLaws) where
  inverse_swapped : (m a : ℕ) → 0 < m → 0 < a → HasInverse m a → HasInverse a m
  inverse_swapped m a positive above unit =
      (laws.coprime a m above).1 (Coprime-swap _ _ ((laws.coprime m a positive).0 unit))

  -- a number whose residues have inverses modulo each modulus has one modulo their product
  unit_above : (moduli : List ℕ) (a : ℕ) → 0 < a → ArePositive moduli
      → ((i : ℕ) → i < length moduli → HasInverse (get_or moduli i 0) a) → HasInverse (range_of moduli) a
  unit_above moduli a above positive each = search (arith, inverse_swapped, has_product, range_positive)

  unit_of_product : (moduli : List ℕ) (a : ℕ) → ArePositive moduli
      → ((i : ℕ) → i < length moduli → HasInverse (get_or moduli i 0) (a % get_or moduli i 0))
      → HasInverse (range_of moduli) a
  unit_of_product moduli a positive each =
      let range = range_of moduli in let b = a + range * 1 in
      let one : range ≡ range * 1 = omega arith in let wide = range_positive moduli positive in
      let (x, unit) = unit_above moduli b (omega (arith, wide)) positive (λ i h.
      let m = get_or moduli i 0 in let (k, e) = divides (length moduli) i moduli h in let (y, is) = each i h in
      (y, inverse_from_mod m b y (subst (λ c. IsInverse m c y) (sym (keeps range m k a 1 e)) is))) in (
        x,
        inverse_from_mod range a x (subst (λ c. IsInverse range c x) (keeps range range 1 a 1 one)
            (inverse_mod range b x unit)),
      )

  -- an inverse that isn't missing exists
  inverse_exists : (m a : ℕ) (o : Option ℕ) → IsInversion (λ x. x) m a o → ((HasInverse m a → ⊥) → ⊥) → HasInverse m a
  inverse_exists m a o none missing = grind arith

  -- where no command before one lacks its inverse modulo a modulus, none does modulo their product
  pub none_lacks_above : (moduli start : List ℕ) (commands : List (RingCommand ℕ)) → ArePositive moduli → (n : ℕ)
      → ((i : ℕ) → i < length moduli → NoneLacks (get_or moduli i 0) (start_mod (get_or moduli i 0) start) commands n)
      → NoneLacks (range_of moduli) start commands n
  none_lacks_above moduli start commands positive zero each at h lacks = omega (arith, h)
  none_lacks_above moduli start commands positive (suc done) each at h lacks =
      let before = none_lacks_above moduli start commands positive done (λ i l k b. each i l k (omega (arith, b))) in
      elim (cases_lt at done) [
        | inl l ↦ before at l lacks
        | inr other ↦ none_of_each (slice_get commands at)
            (λ command. none_of_each (inverted_by command) (λ r units no. no (unit_of_product moduli _ positive (λ i l.
            let f = modulus_is_factor moduli positive i l in
            subst (HasInverse (get_or moduli i 0)) (sym (values_within laws f start commands at
            (λ k b. before k (omega (arith, b, h))) r)) (inverse_exists _ _ _ (laws.named _ _) (units i l))))))
            (λ i l. each i l at h) lacks
      ]
