-- The parts of a list, as lists of their own.
use Rattle.std.proofs.Common.{◌≡◌, ℕ, ◌+◌, ◌-◌, ◌<◌, List, ◌++◌, All, get_or, length, inl, inr}
use Rattle.std.proofs.Common.{sym, arith, subst, length-append}
use Rattle.std.proofs.Math.ListN.{get_or-append}
use Rattle.std.proofs.lemmas.Bool.{cases_lt}
use Rattle.std.proofs.lemmas.List.{length-map, map-append, get_or-append-add}
use Rattle.modular_plan_passes.specs.Plans.{numbers}

pub number_in_front : {T : Type 0} (number : T → ℕ) (xs ys : List T) (i : ℕ) → i < length xs
    → numbers number (xs ++ ys) i ≡ numbers number xs i
number_in_front number xs ys i l = grind (arith, map-append, get_or-append, length-map)

pub number_behind : {T : Type 0} (number : T → ℕ) (xs ys : List T) (n i : ℕ) → length xs ≡ n
    → numbers number (xs ++ ys) (n + i) ≡ numbers number ys i
number_behind number xs ys n i e = grind (arith, map-append, length-map, get_or-append-add)

-- what holds for all words holds for those in front, and for those after them
pub all_in_front : {T : Type 0} (P : T → Type 0) (xs ys : List T) → All P (xs ++ ys) → All P xs
all_in_front P xs ys all k d l = grind (arith, get_or-append, length-append)

pub all_behind : {T : Type 0} (P : T → Type 0) (xs ys : List T) → All P (xs ++ ys) → All P ys
all_behind P xs ys all k d l = grind (arith, get_or-append-add, length-append)

-- what holds for the words of two parts holds for all
pub all_of_both : {T : Type 0} (P : T → Type 0) (xs ys : List T) → All P xs → All P ys → All P (xs ++ ys)
all_of_both P xs ys front back k d l =
    elim (cases_lt k (length xs)) [
      | inl less ↦ subst P (sym (get_or-append xs ys d k less)) (front k d less)
      | inr least ↦
          let i : ℕ = k - length xs in
          let is : length xs + i ≡ k = omega (arith, least) in
          subst (λ v. P (get_or (xs ++ ys) v d)) is
          (subst P (sym (get_or-append-add xs ys i d)) (back i d (omega (arith, length-append xs ys, l, is))))
    ]
