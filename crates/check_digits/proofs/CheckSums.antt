-- Sums that differ in one term, and what a changed sum is modulo m.
use Rattle.std.proofs.Common.{◌↔◌, ◌≡◌, ◌≢◌, ℕ, zero, suc, ◌+◌, ◌-◌, ◌*◌, ◌/◌, ◌%◌, ◌<◌}
use Rattle.std.proofs.Math.ListN.{get_or-append}
use Rattle.std.proofs.Math.Seq.{get_or-append_seam}
use Rattle.std.proofs.Common.{◌≤◌, List, [], ◌∷◌, ◌++◌, length, length-append, get_or, set, sym, ap, ◌∙◌, refl, arith}
use Rattle.std.proofs.Common.{⊎_elim, length-set, get_or-set_same, get_or-set_other}
use Rattle.std.proofs.Math.Nat.{mod-add-mod, add-mul-mod_self_left}
use Rattle.std.proofs.Math.Nat.{zero-mod, mod-eq_of_lt}
use Rattle.std.proofs.lemmas.Bool.{cases_lt}
use Rattle.std.proofs.lemmas.Nat.{mul-mod_second}
use Rattle.num_modular.specs.Inverses.{HasInverse}
use Rattle.num_modular.specs.NumberLaws.{sum_below-more, sum_below-same}
use Rattle.num_modular.specs.Sums.{sum_below}
use Rattle.num_modular.specs.SystemLaws.{spread, gathered}
use Rattle.check_digits.specs.Codes.{weighted_sum, exchanged}

-- sums that differ in the term at p
pub sums_differ_by_one_term : (f g : ℕ → ℕ) (p n : ℕ) → ((i : ℕ) → i ≢ p → f i ≡ g i) → p < n
    → sum_below n f + g p ≡ sum_below n g + f p
unfolding sum_below
sums_differ_by_one_term f g p zero h l = absurd (omega arith)
sums_differ_by_one_term f g p (suc n) h l =
    ⊎_elim
    (λ (b : p < n). search (arith, sums_differ_by_one_term f g p n h b))
    (λ (b : n ≤ p). search (arith, sum_below-same))
    (cases_lt p n)

-- a word with one symbol changed
pub changed_symbol : (ws xs : List ℕ) (p s : ℕ) → p < length xs
    → weighted_sum ws (set xs p s) + get_or ws p 0 * get_or xs p 0 ≡ weighted_sum ws xs + get_or ws p 0 * s
changed_symbol ws xs p s h =
    let moved = sums_differ_by_one_term (λ i. get_or ws i 0 * get_or (set xs p s) i 0) (λ i. get_or ws i 0 * get_or xs i
    0) p
    (length xs) (λ i ne. search (arith, get_or-set_other)) h in
    grind (arith, length-set, get_or-set_same)

-- and with two neighbours exchanged
pub exchanged_symbols : (ws xs : List ℕ) (p : ℕ) → suc p < length xs
    → weighted_sum ws (exchanged xs p) + get_or ws p 0 * get_or xs p 0 + get_or ws (suc p) 0 * get_or xs (suc p) 0
    ≡ weighted_sum ws xs + get_or ws p 0 * get_or xs (suc p) 0 + get_or ws (suc p) 0 * get_or xs p 0
exchanged_symbols ws xs p h = search (arith, changed_symbol, length-set, get_or-set_other)

-- the sum of a word with a symbol changed, d being the difference of the symbols
pub changed_sum : (m S S' w x s d : ℕ) → S' + w * x ≡ S + w * s → (d + x) % m ≡ s % m → S' % m ≡ (S + w * d) % m
changed_sum m S S' w x s d moved difference =
    let times = ap (λ n. w * n) (spread m (d + x) s difference) in
    gathered m S' (S + w * d) (w * ((d + x) / m)) (w * (s / m)) (omega (arith, times, moved))

-- and with two neighbours exchanged, e being the difference of the weights
pub exchanged_sum : (m S S' v w x y e d : ℕ) → S' + v * x + w * y ≡ S + v * y + w * x
    → (e + w) % m ≡ v % m → (d + x) % m ≡ y % m → S' % m ≡ (S + e * d) % m
exchanged_sum m S S' v w x y e d moved weights symbols =
    let weights_x = ap (λ n. n * x) (spread m (e + w) v weights) in
    let weights_y = ap (λ n. n * y) (spread m (e + w) v weights) in
    let times = ap (λ n. e * n) (spread m (d + x) y symbols) in
    gathered m S' (S + e * d) (e * ((d + x) / m) + (e + w) / m * y + v / m * x)
    (e * (y / m) + v / m * y + (e + w) / m * x) (omega (arith, times, moved, weights_x, weights_y))

-- a sum is still congruent to r, exactly where the change is congruent to 0
pub still_leaves : (m r S S' p : ℕ) → S % m ≡ r % m → S' % m ≡ (S + p) % m → (S' % m ≡ r % m) ↔ (p % m ≡ 0)
still_leaves m r S S' p leaves changed = (
  λ h.
      gathered m p 0 _ _ (let e : p + m * (S / m) ≡ 0 + m * ((S + p) / m) = omega arith in e) ∙ zero-mod m,
  λ none. changed ∙ gathered m (S + p) S 0 (p / m) (omega arith) ∙ leaves,
)

-- a factor with an inverse cancels from a product that is 0 modulo m
pub unit_cofactor_residue_is_zero : (m e i d : ℕ) → (e * i) % m ≡ 1 % m → (e * d) % m ≡ 0 → d % m ≡ 0
unit_cofactor_residue_is_zero m e i d one zero_product =
    let times = ap (λ n. n * d) (spread m (e * i) 1 one) in
    let along : i * (m * (e * d / m)) ≡ i * (e * d) = ap (λ n. i * n) (omega arith) in
    gathered m d 0 (e * i / m * d) (i * (e * d / m) + 1 / m * d) (omega (arith, times, along)) ∙ zero-mod m

-- so it shows a difference
pub unit_finds : (m e d x s : ℕ) → HasInverse m e → (d + x) % m ≡ s % m → s % m ≢ x % m → (e * d) % m ≢ 0
unit_finds m e d x s (i, inverse) difference apart zero_product =
    let none = unit_cofactor_residue_is_zero m e i d inverse.one zero_product in
    apart (sym difference ∙ gathered m (d + x) x 0 (d / m) (omega arith))

-- a word with one more symbol
pub appended_symbol : (ws xs : List ℕ) (s : ℕ)
    → weighted_sum ws (xs ++ s ∷ []) ≡ weighted_sum ws xs + get_or ws (length xs) 0 * s
appended_symbol ws xs s = search (
  arith,
  length-append,
  sum_below-more,
  sum_below-same,
  get_or-append,
  get_or-append_seam,
)

-- a quotient by the weight completes the sum, where rest is the residue r less the sum
pub completed_sum : (m sum w q rest r : ℕ) → (q * (w % m)) % m ≡ rest % m → (rest + sum) % m ≡ r % m
    → (sum + w * q) % m ≡ r % m
completed_sum m sum w q rest r product less =
    let first = mod-add-mod (q * w) m sum in
    grind (arith, mod-add-mod rest m sum, mul-mod_second)

-- a word with another symbol, by the sum of its others
pub others_sum : (m S S' w x s others : ℕ) → S' + w * x ≡ S + w * s → (others + (w * x) % m) % m ≡ S % m
    → S' % m ≡ (others + w * s) % m
others_sum m S S' w x s others moved less =
    gathered m S' (others + w * s) ((others + (w * x) % m) / m + w * x / m) (S / m) (omega (arith, moved))

-- a difference that is 0 modulo m, of residues
pub residues_equal_by_zero_difference : (m d x y : ℕ) → x < m → y < m → (d + x) % m ≡ y % m → d % m ≡ 0 → y ≡ x
residues_equal_by_zero_difference m d x y x_below y_below difference none = search (arith, mod-eq_of_lt, mod-add-mod)

-- a difference of residues
pub a_difference : (m x y : ℕ) → x < m → (y + (m - x) + x) % m ≡ y % m
a_difference m x y h = search (arith, add-mul-mod_self_left)

-- one symbol completes a sum
pub one_completion : (m sum w s t : ℕ) → HasInverse m w → s < m → t < m → (sum + w * s) % m ≡ (sum + w * t) % m → t ≡ s
one_completion m sum w s t (i, inverse) s_below t_below same =
    let difference = a_difference m t s t_below in
    let moved : sum + w * s + w * t ≡ sum + w * t + w * s = omega arith in
    let told = still_leaves m _ _ _ _ refl (changed_sum m _ _ w t s _ moved difference) in
    sym (residues_equal_by_zero_difference m _ _ _ t_below s_below difference (unit_cofactor_residue_is_zero m w i _
    inverse.one (told.0 same)))
