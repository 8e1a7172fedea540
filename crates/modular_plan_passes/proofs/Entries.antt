-- A list of words as the function from places to numbers: what is read and what is number_written.
use Rattle.std.proofs.Common.{◌≡◌, ◌≢◌, ℕ, ◌+◌, ◌%◌, ◌<◌, ◌≤◌, List, [], ◌∷◌, All, get_or, length}
use Rattle.std.proofs.Common.{sym, ◌∙◌, ap, arith, subst, get_or-set_same, get_or-set_other}
use Rattle.std.proofs.Math.Nat.{mod-lt}
use Rattle.std.proofs.Math.ListN.{set, length-set}
use Rattle.std.proofs.lemmas.List.{get_or-map, map-set}
use Rattle.modular_plan_passes.specs.Plans.{numbers}

-- the number at place i
pub number_at : {T : Type 0} (number : T → ℕ) (words : List T) (i : ℕ) (d : T) → i < length words
    → number (get_or words i d) ≡ numbers number words i
number_at number words i d below = sym (get_or-map number words i d 0 below)

-- the number of a word that was read at place i
pub number_read : {T : Type 0} (number : T → ℕ) (words : List T) (i : ℕ) (x : T) → i < length words
    → x ≡ get_or words i x → number x ≡ numbers number words i
number_read number words i x below is = ap number is ∙ number_at number words i x below

-- after a write: the place itself ..
pub number_written : {T : Type 0} (number : T → ℕ) (words : List T) (i : ℕ) (x : T) → i < length words
    → numbers number (set words i x) i ≡ number x
number_written number words i x below =
    grind (arith, number_at number (set words i x) i x, length-set words i x, get_or-set_same words i x x below)

-- .. and every other
pub number_not_written : {T : Type 0} (number : T → ℕ) (words : List T) (i j : ℕ) (x : T) → j ≢ i
    → numbers number (set words i x) j ≡ numbers number words j
number_not_written number words i j x ne = grind (arith, map-set, get_or-set_other)

-- a bound of all words
pub entry_below_common_bound : {T : Type 0} (number : T → ℕ) (bound : ℕ) (words : List T) (i : ℕ) (d : T)
    → All (λ x. number x < bound) words → i < length words → numbers number words i < bound
entry_below_common_bound number bound words i d all below = subst (λ v. v < bound) (number_at number words i d below)
    (all i d below)

-- .. of one that was read
pub below_read : {T : Type 0} (number : T → ℕ) (bound : ℕ) (words : List T) (i : ℕ) (x : T)
    → All (λ x. number x < bound) words → i < length words → x ≡ get_or words i x → number x < bound
below_read number bound words i x all below is = subst (λ w. number w < bound) (sym is) (all i x below)

-- .. where none is at hand
pub bounded_at : {T : Type 0} (number : T → ℕ) (bound : ℕ) (words : List T) (i : ℕ)
    → All (λ x. number x < bound) words → i < length words → numbers number words i < bound
bounded_at number bound [] i all below = absurd (omega arith)
bounded_at number bound (x ∷ xs) i all below = entry_below_common_bound number bound (x ∷ xs) i x all below

-- .. and a greater one
pub all_wider : {T : Type 0} (number : T → ℕ) {a b : ℕ} (words : List T) → a ≤ b → All (λ x. number x < a) words
    → All (λ x. number x < b) words
all_wider number words wide all i d l = let h = all i d l in omega (arith, h, wide)

-- a loop that writes entry after entry
pub entry_written : {T : Type 0} (number : T → ℕ) (words : List T) (i : ℕ) (x : T) (P : ℕ → ℕ → Type 0)
    → i < length words
    → ((k : ℕ) → k < i → P k (numbers number words k)) → P i (number x)
    → (k : ℕ) → k < i + 1 → P k (numbers number (set words i x) k)
entry_written number words i x P within before is k l = grind (arith, set, number_written, number_not_written)

pub written_numbers_match_target : {T : Type 0} (number : T → ℕ) (words : List T) (i : ℕ) (x : T) (target : ℕ → ℕ)
    → i < length words
    → ((k : ℕ) → k < i → numbers number words k ≡ target k)
    → number x ≡ target i → (k : ℕ) → k < i + 1 → numbers number (set words i x) k ≡ target k
written_numbers_match_target number words i x target = entry_written number words i x (λ k v. v ≡ target k)

pub entry_kept : {T : Type 0} (number : T → ℕ) (words : List T) (i : ℕ) (x : T) (old : ℕ → ℕ)
    → ((k : ℕ) → i ≤ k → numbers number words k ≡ old k)
    → (k : ℕ) → i + 1 ≤ k → numbers number (set words i x) k ≡ old k
entry_kept number words i x old before k l = grind (arith, number_not_written)

-- .. of their numbers
pub all_below : {T : Type 0} (number : T → ℕ) (bound n : ℕ) (words : List T) → length words ≡ n
    → ((k : ℕ) → k < n → numbers number words k < bound) → All (λ x. number x < bound) words
all_below number bound n words len each i d below = grind (arith, number_at number words i d below, each i)

-- all words below m, by their residues
pub all_residues : {T : Type 0} (number : T → ℕ) (m n : ℕ) (words : List T) (old : ℕ → ℕ) → 0 < m → length words ≡ n
    → ((k : ℕ) → k < n → numbers number words k ≡ old k % m)
    → All (λ x. number x < m) words
all_residues number m n words old some len is =
    all_below number m n words len (λ k l. subst (λ v. v < m) (sym (is k l)) (mod-lt (old k) some))

-- a loop never comes to an entry that is not below the bound of all
pub never_beyond : {T : Type 0} {A : Type 0} (number : T → ℕ) (bound : ℕ) (words start : List T) (i : ℕ) (x : T)
    → All (λ x. number x < bound) start → i < length words → i < length start → x ≡ get_or words i x
    → numbers number words i ≡ numbers number start i → bound ≤ number x → A
never_beyond number bound words start i x all within start_within is kept far =
    let below = entry_below_common_bound number bound start i x all start_within in
    absurd (omega (arith, number_read number words i x within is, below, kept, far))
