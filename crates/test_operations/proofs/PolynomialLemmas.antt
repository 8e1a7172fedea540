-- The numbers of lists of coefficients.
use Rattle.std.proofs.Common.{◌≡◌, ℕ, ◌+◌, ◌%◌, ◌<◌, List, [], ◌∷◌, ◌++◌, length, slice_index}
use Rattle.std.proofs.Common.{map, take, get_or, ap, sym, ◌∙◌}
use Rattle.std.proofs.lemmas.List.{take_more, map-append}
use Rattle.modular_word.specs.Sums.{sum_below, polynomial_highest_first}

-- the numbers of the first elements and one more
pub mapped_more : {A : Type 0} (f : A → ℕ) (xs : List A) (i : ℕ) (item : A) → i < length xs → item ≡ get_or xs i item
    → map f (take (i + 1) xs) ≡ map f (take i xs) ++ f item ∷ []
mapped_more f xs i item h e =
    ap (map f) (take_more xs i item h ∙ ap (λ y. take i xs ++ y ∷ []) (sym e)) ∙ map-append f (take i xs) (item ∷ [])

-- 2·7^2 + 3·7 + 5 is 19 modulo 21
pub value_at_7 : (m a b c x : ℕ) → m ≡ 21 → a ≡ 2 % m → b ≡ 3 % m → c ≡ 5 % m → x ≡ 7 % 21
    → polynomial_highest_first 3 (slice_index (a ∷ b ∷ c ∷ [])) x % m ≡ 19
unfolding sum_below
value_at_7 m a b c x em ea eb ec ex = rw (ea, eb, ec, ex, em)
