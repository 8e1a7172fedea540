-- Tables and plans for C, and the lists of words that calls by them accept. The names are the library's own words.
use Rattle.std.specs.Prelude.{◌≡◌, ℕ, ◌*◌, ◌/◌, ◌%◌, ◌^◌, ◌<◌, ◌≤◌, List, All, length}
use Rattle.modular_plan_passes.specs.Factors.{AllFactors}
use Rattle.modular_plan_passes.specs.Plans.{numbers, AreTwiddles, AreRemainders}
use Rattle.modular_plan_transforms.specs.Tables.{IsTable as IsTableOf}
use Rattle.num_modular.specs.PlanConditions.{AreBlocks}
use Rattle.num_modular.specs.ProductConditions.{AreSmallBlocks}
use Rattle.num_modular.specs.Transforms.{transform, cyclic_product}
use Rattle.num_modular_c.specs.declared.plan_value.NmPlan.{NmPlan}
use Rattle.num_modular_c.specs.declared.plans.NmFactor.{NmFactor}

-- m can be the modulus of a table: it is from 1 to 2^62
abbrev pub IsAdmitted : ℕ → Type 0
IsAdmitted m = (1 ≤ m) × (4 * m ≤ 2 ^ 64)

-- each word is below the bound
abbrev pub AreBelow : ℕ → List ℕ → Type 0
AreBelow bound words = All (λ x. x < bound) words

-- the words of a list, by their indexes
abbrev pub words_of : List ℕ → ℕ → ℕ
words_of words = numbers (λ x. x) words

-- each entry is a factor below m with its quotient by m
abbrev pub AreFactors : ℕ → List NmFactor → Type 0
AreFactors m table = AllFactors (2 ^ 64) m (λ f. f.value) (λ f. f.quotient) table

-- the table's values are the twiddle factors of g for transforms of 2^z entries
abbrev pub HasTwiddles : ℕ → ℕ → ℕ → List NmFactor → Type 0
HasTwiddles m g z table = AreTwiddles m g z (length table) (numbers (λ f. f.value) table)

-- the table is that of g, with the quotients by m, for as many entries as twice its length
abbrev pub IsTable : ℕ → ℕ → List NmFactor → Type 0
IsTable m g table = IsTableOf (2 ^ 64) m g (λ f. f.value) (λ f. f.quotient) table

-- the words are below 4m, and a table of so many factors splits them, as block b, into blocks of `last`
pub record IsSplit (m factors b last : ℕ) (words : List ℕ) : Type 0 where
  pub admitted : IsAdmitted m
  pub room : AreBelow (4 * m) words
  pub blocks : AreBlocks (length words) factors b last

-- the plan has this modulus and the residue of this root, and its table, of so many entries, is that of the root
pub record IsMade (m g count : ℕ) (plan : NmPlan) : Type 0 where
  pub modulus : plan.modulus ≡ m
  pub root : plan.root ≡ g % m
  pub entries : length plan.table.now ≡ count
  pub table : IsTable m (g % m) plan.table.now

-- the power of g that suits n of 2^z words
abbrev pub shorter_root : ℕ → ℕ → ℕ → ℕ
shorter_root g z n = g ^ (2 ^ z / n)

-- after a transform: for each g whose table it is, entry j of the words is that of the transform of those before
pub record IsTransformed (m : ℕ) (table : List NmFactor) (before after : List ℕ) : Type 0 where
  pub below : AreBelow m after
  pub values : (g z j : ℕ) → HasTwiddles m g z table → j < length before → words_of after j
      ≡ transform m (shorter_root g z (length before)) (length before) (words_of before) j

-- after an inverse transform: for each g whose table it is, the words before are the transform of those after, and of no
-- others
pub record IsTransformedBack (m : ℕ) (table : List NmFactor) (before after : List ℕ) : Type 0 where
  pub below : AreBelow m after
  pub values : (g z j : ℕ) → HasTwiddles m g z table → j < length before
      → transform m (shorter_root g z (length before)) (length before) (words_of after) j ≡ words_of before j % m
  pub only : (g z : ℕ) (x : ℕ → ℕ) → HasTwiddles m g z table
      → ((j : ℕ) → j < length before
      → transform m (shorter_root g z (length before)) (length before) x j ≡ words_of before j % m)
      → (i : ℕ) → i < length before → words_of after i ≡ x i % m

-- after a split of block b: for each g whose table it is, the words are the remainders of those before
pub record AreSplit (m b last : ℕ) (table : List NmFactor) (before after : List ℕ) : Type 0 where
  pub below : AreBelow m after
  pub remainders : (g z : ℕ) → HasTwiddles m g z table
      → AreRemainders m g z b (length before / last) last (words_of before) (words_of after)

-- after a join to block b: where the words before are the remainders of a list, they become the list times a number
pub record AreJoined (m b last times : ℕ) (table : List NmFactor) (before after : List ℕ) : Type 0 where
  pub below : AreBelow m after
  pub joined : (g z : ℕ) (x : ℕ → ℕ) → HasTwiddles m g z table
      → AreRemainders m g z b (length before / last) last x (λ i. words_of before i % m)
      → (i : ℕ) → i < length before → words_of after i ≡ (times * x i) % m

-- two lists of equal length of words below 4m; so many factors suffice for their product as block b, by blocks of
-- `last`
pub record FitPlannedProduct (m factors b last : ℕ) (words others : List ℕ) : Type 0 where
  pub admitted : IsAdmitted m
  pub room : AreBelow (4 * m) words
  pub other_room : AreBelow (4 * m) others
  pub equal : length others ≡ length words
  pub blocks : AreSmallBlocks (length words) factors b last

-- after a product: entry e is p e for each g whose table it is, the words are below m, and the other list holds the
-- remainders of block b as `split` computes them
pub record IsPlannedProduct (m b last : ℕ) (table : List NmFactor) (p : ℕ → ℕ → ℕ → ℕ)
    (others words new_others : List ℕ) : Type 0 where
  pub below : AreBelow m words
  pub product : (g z e : ℕ) → HasTwiddles m g z table → e < length words → words_of words e ≡ p g z e
  pub others_below : AreBelow m new_others
  pub remainders : (g z : ℕ) → HasTwiddles m g z table
      → AreRemainders m g z b (length others / last) last (words_of others) (words_of new_others)

-- after a square: for each g whose table it is, entry e of the words is that of the cyclic product of those before with
-- themselves
pub record IsPlannedSquare (m : ℕ) (table : List NmFactor) (before after : List ℕ) : Type 0 where
  pub below : AreBelow m after
  pub square : (g z e : ℕ) → HasTwiddles m g z table → e < length before
      → words_of after e ≡ cyclic_product m (length before) (words_of before) (words_of before) e
