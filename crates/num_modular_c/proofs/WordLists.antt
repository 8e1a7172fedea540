-- The outcome of an operation on the residues of words, and lists entry by entry.
use Rattle.std.proofs.Common.{◌≡◌, ℕ, ◌+◌, ◌*◌, ◌%◌, ◌<◌, pos, ◌-ℤ◌, List, All, length, map, get_or}
use Rattle.std.proofs.Common.{sym, ◌∙◌, ap₂, subst, arith}
use Rattle.std.proofs.Math.Nat.{mod-mod, mod-add-mod, add-mod-mod}
use Rattle.std.proofs.lemmas.List.{get_or-map}
use Rattle.std.proofs.lemmas.Nat.{mul-mod_first, mul-mod_second}
use Rattle.modular_word.proofs.Congruence.{equal_below, mod_add_cancel}
use Rattle.modular_word.proofs.ResidueLemmas.{difference_and, residue_is}
use Rattle.modular_word.proofs.Sums.{sum_below-same}
use Rattle.num_modular.specs.Residues.{residue}
use Rattle.num_modular.specs.Sums.{sum_below}
use Rattle.num_modular_c.specs.Contexts.{IsMontgomeryForm, IsMontgomeryFormOf, value_of}

pub sum_of_words : (m x y a b : ℕ) → x ≡ a % m → y ≡ b % m → (x + y) % m ≡ (a + b) % m
sum_of_words m x y a b e f = simp (e, f, mod-add-mod, add-mod-mod)

pub product_of_words : (m x y a b : ℕ) → x ≡ a % m → y ≡ b % m → (x * y) % m ≡ (a * b) % m
product_of_words m x y a b e f = simp (e, f, mul-mod_first, mul-mod_second)

pub difference_of_words : (m x y a b : ℕ) → 0 < m → x ≡ a % m → y ≡ b % m
    → residue m (pos x -ℤ pos y) ≡ residue m (pos a -ℤ pos b)
difference_of_words m x y a b h e f =
    let one = difference_and m x y h in
    let other = difference_and m a b h in
    equal_below (residue_is m (pos x -ℤ pos y) h).below (residue_is m (pos a -ℤ pos b) h).below
    (mod_add_cancel b (record {
      same = grind (arith, one, other, add-mod-mod (residue m (pos x -ℤ pos y)) b m, mod-mod a m);
    }))

-- the forms modulo q that an operation wrote are those of its outcomes modulo m, which is q
pub forms_of_outcomes : (m q : ℕ) (op : ℕ → ℕ → ℕ → ℕ) (old ys new : List ℕ) → m ≡ q → length new ≡ length old
    → length ys ≡ length old → All (IsMontgomeryForm q) new
    → ((i : ℕ) → i < length old → get_or (map (value_of q) new) i 0
    ≡ op q (get_or (map (value_of q) old) i 0) (get_or (map (value_of q) ys) i 0))
    → (i : ℕ) → i < length old
    → IsMontgomeryFormOf m (get_or new i 0) (op m (value_of m (get_or old i 0)) (value_of m (get_or ys i 0)))
forms_of_outcomes m q op old ys new is same equal checked values i l = rw is (
  checked i 0 (subst (λ n. i < n) (sym same) l),
  sym (get_or-map (value_of q) new i 0 0 (subst (λ n. i < n) (sym same) l)) ∙ values i l
      ∙ ap₂ (op q) (get_or-map (value_of q) old i 0 0 l)
      (get_or-map (value_of q) ys i 0 0 (subst (λ n. i < n) (sym equal) l)),
)

-- the sum of the products of the values
pub products_of_values : (value : ℕ → ℕ) (xs ys : List ℕ) → length ys ≡ length xs
    → sum_below (length xs) (λ i. get_or (map value xs) i 0 * get_or (map value ys) i 0)
    ≡ sum_below (length xs) (λ i. value (get_or xs i 0) * value (get_or ys i 0))
products_of_values value xs ys equal =
    sum_below-same (length xs) _ _ (λ i l. ap₂ (λ v w. v * w) (get_or-map value xs i 0 0 l)
    (get_or-map value ys i 0 0 (subst (λ n. i < n) (sym equal) l)))
