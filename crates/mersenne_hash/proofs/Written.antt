-- Lists of hashes that are written entry after entry.
use Rattle.std.proofs.Common.{◌≡◌, ℕ, ◌+◌, ◌*◌, ◌%◌, ◌^◌, ◌<◌, ◌≤◌, List, length, get_or, map, slice_set}
use Rattle.std.proofs.Common.{arith, ap, sym, ◌∙◌, inl, inr, add-one}
use Rattle.std.proofs.Math.Nat.{pow-suc}
use Rattle.std.proofs.lemmas.Bool.{cases_eq}
use Rattle.std.proofs.lemmas.Nat.{mul-mod_first}
use Rattle.num_modular.specs.Callers.{entry_written, entry_kept}

-- the entry after the first i
pub next_written : {T : Type 0} (number : T → ℕ) (xs : List T) (i : ℕ) (x : T) (v : ℕ → ℕ) → i < length xs
    → ((k : ℕ) → k < i → get_or (map number xs) k 0 ≡ v k) → number x ≡ v i
    → (k : ℕ) → k < i + 1 → get_or (map number (slice_set xs i x)) k 0 ≡ v k
next_written number xs i x v below held is k l = elim (cases_eq k i) [
  | inl e ↦
      ap (λ k. get_or (map number (slice_set xs i x)) k 0) e ∙ entry_written number (λ m f. f) 0 xs i x below ∙ is
      ∙ ap v (sym e)
  | inr other ↦ entry_kept number (λ m f. f) 0 xs i k x other ∙ held k (omega (arith, l, other))
]

-- the first of all
pub first_written : {T : Type 0} (number : T → ℕ) (xs : List T) (x : T) (v : ℕ → ℕ) → 0 < length xs → number x ≡ v 0
    → (k : ℕ) → k ≤ 0 → get_or (map number (slice_set xs 0 x)) k 0 ≡ v k
first_written number xs x v some is k none =
    next_written number xs 0 x v some (λ k l. absurd (omega (arith, l))) is k (omega (arith, none))

-- and the one after those up to i
pub more_written : {T : Type 0} (number : T → ℕ) (xs : List T) (i : ℕ) (x : T) (v : ℕ → ℕ) → i + 1 < length xs
    → ((k : ℕ) → k ≤ i → get_or (map number xs) k 0 ≡ v k) → number x ≡ v (i + 1)
    → (k : ℕ) → k ≤ i + 1 → get_or (map number (slice_set xs (i + 1) x)) k 0 ≡ v k
more_written number xs i x v below held is k l =
    next_written number xs (i + 1) x v below (λ k l. held k (omega (arith, l))) is k (omega (arith, l))

-- one power more
pub one_more_power : (p x i power product : ℕ) → power ≡ x ^ i % p → product ≡ (power * x) % p
    → product ≡ x ^ (i + 1) % p
one_more_power p x i power product e f =
    f ∙ ap (λ k. (k * x) % p) e ∙ mul-mod_first (x ^ i) x p
    ∙ ap (λ k. k % p) (sym (ap (λ k. x ^ k) (add-one i) ∙ pow-suc x i))
