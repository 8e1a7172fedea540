-- A list reordered in place by swaps.
use Rattle.std.proofs.Common.{◌≡◌, ◌≢◌, ℕ, ◌+◌, ◌-◌, ◌%◌, ◌^◌, ◌<◌, ◌≤◌, ◌⊎◌, inl, subst, ◌∙◌, ap, arith}
use Rattle.std.proofs.lemmas.List.Edits.{Swapped}
use Rattle.modular_transform.specs.Orders.{bits_reversed, mirrored}
use Rattle.modular_transform.proofs.BitReversal.{bits_reversed_below, bits_reversed_twice}
use Rattle.std.proofs.Math.Nat.{mod_self, mod-eq_of_lt}

-- s exchanges the places below n in pairs
pub record IsExchange (n : ℕ) (s : ℕ → ℕ) : Type 0 where
  pub within : (k : ℕ) → k < n → s k < n
  pub twice : (k : ℕ) → k < n → s (s k) ≡ k

-- the places below n exchanged in pairs by s, as far as pairs with a place below i
pub record ReorderedSoFar {T : Type 0} (n i : ℕ) (s : ℕ → ℕ) (old new : ℕ → T) : Type 0 where
  pub done : (k : ℕ) → k < n → (k < i) ⊎ (s k < i) → new k ≡ old (s k)
  pub kept : (k : ℕ) → k < n → i ≤ k → i ≤ s k → new k ≡ old k

pub reordered_none : {T : Type 0} (n : ℕ) (s : ℕ → ℕ) (old : ℕ → T) → ReorderedSoFar n 0 s old old
reordered_none n s old = grind arith

-- the same as far as pairs with a place below j, where j is i
pub reordered_at : {T : Type 0} (n i j : ℕ) (s : ℕ → ℕ) (old new : ℕ → T) → i ≡ j → ReorderedSoFar n i s old new
    → ReorderedSoFar n j s old new
reordered_at n i j s old new e so_far = subst (λ v. ReorderedSoFar n v s old new) e so_far

-- of the entries below n, those of two places are exchanged and no others
pub record ExchangedBelow {T : Type 0} (n i j : ℕ) (x y : ℕ → T) : Type 0 where
  pub first : y i ≡ x j
  pub second : y j ≡ x i
  pub others : (k : ℕ) → k < n → k ≢ i → k ≢ j → y k ≡ x k

pub exchanged_of_swapped : {T : Type 0} (n i j : ℕ) (x y : ℕ → T) → Swapped x y i j → ExchangedBelow n i j x y
exchanged_of_swapped n i j x y swapped =
    record { first = swapped.0; second = swapped.1; others = λ k l ni nj. swapped.2 k ni nj }

-- the pair of i is swapped
pub reordered_swapped : {T : Type 0} (n i : ℕ) (s : ℕ → ℕ) (old new newer : ℕ → T) → IsExchange n s → i < n → i < s i
    → ExchangedBelow n i (s i) new newer → ReorderedSoFar n i s old new → ReorderedSoFar n (i + 1) s old newer
reordered_swapped n i s old new newer exchange li order swapped so_far = grind arith

-- the pair of i was swapped before, or is i alone
pub reordered_passed : {T : Type 0} (n i : ℕ) (s : ℕ → ℕ) (old new : ℕ → T) → IsExchange n s → i < n → s i ≤ i
    → ReorderedSoFar n i s old new → ReorderedSoFar n (i + 1) s old new
reordered_passed n i s old new exchange li order so_far = grind arith

-- w pairs, all of them swapped before
pub reordered_passed_by : {T : Type 0} (n i w : ℕ) (s : ℕ → ℕ) (old new : ℕ → T) → IsExchange n s
    → ((k : ℕ) → k < n → i ≤ k → k < i + w → s k < i) → ReorderedSoFar n i s old new
    → ReorderedSoFar n (i + w) s old new
reordered_passed_by n i w s old new exchange passed so_far = grind arith

pub reordered_all : {T : Type 0} (n i : ℕ) (s : ℕ → ℕ) (old new : ℕ → T) → n ≤ i → ReorderedSoFar n i s old new
    → (k : ℕ) → k < n → new k ≡ old (s k)
reordered_all n i s old new all so_far k l = so_far.done k l (inl (omega arith))

pub bits_exchange : (bits n : ℕ) → n ≡ 2 ^ bits → IsExchange n (bits_reversed bits)
bits_exchange bits n whole = omega (arith, bits_reversed_below, bits_reversed_twice)

pub mirrored_first : (n : ℕ) → mirrored n 0 ≡ 0
mirrored_first n = let e : n - 0 ≡ n = omega arith in ap (λ v. v % n) e ∙ mod_self n

pub mirrored_other : (n k : ℕ) → 0 < k → k < n → mirrored n k ≡ n - k
mirrored_other n k some l = let b : n - k < n = omega arith in mod-eq_of_lt b

pub mirror_exchange : (n : ℕ) → IsExchange n (mirrored n)
mirror_exchange n = grind arith
