-- Words of codes with one symbol changed, or with two neighbours exchanged.
use Rattle.std.proofs.Common.{Bool, IsTrue, ◌↔◌, ◌≡◌, ◌≢◌, ℕ, suc, ◌+◌, ◌*◌, ◌%◌, ◌<◌, pos, ◌-ℤ◌}
use Rattle.std.proofs.Math.ListN.{get_or-append}
use Rattle.std.proofs.Math.Seq.{get_or-append_seam}
use Rattle.std.proofs.Common.{List, [], ◌∷◌, ◌++◌, length, length-append, get_or, set, ap, ◌∙◌, arith}
use Rattle.std.proofs.Common.{length-set, get_or-set_same, get_or-set_other}
use Rattle.std.proofs.Math.Nat.{mod-add-mod}
use Rattle.std.proofs.lemmas.Bool.{cases_eq, cases_lt}
use Rattle.num_modular.specs.NumberLaws.{difference_and}
use Rattle.num_modular.specs.Residues.{residue}
use Rattle.check_digits.specs.Codes.{weighted_sum, CheckCode, Fits, IsCodeword, exchanged}
use Rattle.check_digits.proofs.CheckSums.{appended_symbol, changed_symbol, changed_sum, exchanged_symbols}
use Rattle.check_digits.proofs.CheckSums.{exchanged_sum, still_leaves}

-- a symbol written into a word: each fits, where the others do
pub set_fits : (code : CheckCode) (word : List ℕ) (p s : ℕ) → Fits code p s
    → ((i : ℕ) → i < length word → i ≢ p → Fits code i (get_or word i 0))
    → (i : ℕ) → i < length (set word p s) → Fits code i (get_or (set word p s) i 0)
set_fits code word p s here others i h = search (arith, length-set, get_or-set_same, get_or-set_other, cases_eq)

-- a word with another symbol that is of the code: the symbol fits, and so do the others
pub fits_there : (code : CheckCode) (word : List ℕ) (p s : ℕ) → p < length word → IsCodeword code (set word p s)
    → Fits code p s
fits_there code word p s within w = search (arith, length-set, get_or-set_same)

pub fits_elsewhere : (code : CheckCode) (word : List ℕ) (p s : ℕ) → IsCodeword code (set word p s) → (i : ℕ)
    → i < length word → i ≢ p → Fits code i (get_or word i 0)
fits_elsewhere code word p s w i h ne = search (arith, length-set, get_or-set_other)

-- the word with one symbol changed, d being a difference of the symbols
pub changed_word : (code : CheckCode) (word : List ℕ) (p s d : ℕ) → IsCodeword code word → p < length word
    → (d + get_or word p 0) % code.modulus ≡ s % code.modulus
    → IsCodeword code (set word p s) ↔ (Fits code p s × ((get_or code.weights p 0 * d) % code.modulus ≡ 0))
changed_word code word p s d is within difference =
    let moved = changed_symbol code.weights word p s within in
    let still = still_leaves code.modulus code.residue _ _ _ is.leaves
    (changed_sum code.modulus _ _ _ _ _ d moved difference) in search (arith, fits_there, length-set, set_fits)

-- and with two neighbours exchanged, e being a difference of their weights
pub exchanged_word : (code : CheckCode) (word : List ℕ) (p e d : ℕ) → IsCodeword code word → suc p < length word
    → (e + get_or code.weights (suc p) 0) % code.modulus ≡ get_or code.weights p 0 % code.modulus
    → (d + get_or word p 0) % code.modulus ≡ get_or word (suc p) 0 % code.modulus
    → IsCodeword code (exchanged word p)
    ↔ (Fits code p (get_or word (suc p) 0) × Fits code (suc p) (get_or word p 0) × ((e * d) % code.modulus ≡ 0))
exchanged_word code word p e d is within weights symbols =
    let moved = exchanged_symbols code.weights word p within in
    let still = still_leaves code.modulus code.residue _ _ _ is.leaves
    (exchanged_sum code.modulus _ _ _ _ _ _ e d moved weights symbols) in
    search (arith, length-set, get_or-set_other, get_or-set_same, set_fits)

-- the same by the residues of the differences
pub change_told : (code : CheckCode) (word : List ℕ) (p s : ℕ) → 0 < code.modulus → IsCodeword code word
    → p < length word
    → IsCodeword code (set word p s) ↔ (Fits code p s
    × ((get_or code.weights p 0 * residue code.modulus (pos s -ℤ pos (get_or word p 0))) % code.modulus ≡ 0))
change_told code word p s positive is within =
    changed_word code word p s _ is within (difference_and code.modulus s (get_or word p 0) positive)

pub exchange_told : (code : CheckCode) (word : List ℕ) (p : ℕ) → 0 < code.modulus → IsCodeword code word
    → suc p < length word
    → IsCodeword code (exchanged word p)
    ↔ ((Fits code p (get_or word (suc p) 0) × Fits code (suc p) (get_or word p 0))
    × ((residue code.modulus (pos (get_or code.weights p 0) -ℤ pos (get_or code.weights (suc p) 0))
    * residue code.modulus (pos (get_or word (suc p) 0) -ℤ pos (get_or word p 0))) % code.modulus ≡ 0))
exchange_told code word p positive is within =
    let told = exchanged_word code _ _ _ _ is within
    (difference_and _ (get_or code.weights p 0) (get_or code.weights (suc p) 0) positive)
    (difference_and _ _ _ positive) in
    ((λ w. (((told.0 w).0, (told.0 w).1), (told.0 w).2)), λ h. told.1 (h.0.0, h.0.1, h.1))

-- the test of a changed word W, F being that its symbols fit, and v what the sum shows of the change
pub test_detects_changed_word : {r f : Bool} {F W : Type 0} (shown v : ℕ) → shown ≡ v → IsTrue r
    ↔ (IsTrue f → shown ≢ 0) → IsTrue f ↔ F
    → W ↔ (F × (v ≡ 0)) → (IsTrue r ↔ ¬ W) × (IsTrue r ↔ (F → v ≢ 0))
test_detects_changed_word shown v same is test told = search arith

-- the word with one more symbol, v being the residue of the sum without it
pub appended_word : (code : CheckCode) (word : List ℕ) (s v : ℕ) → length word + 1 ≡ length code.weights
    → v ≡ weighted_sum code.weights word % code.modulus
    → IsCodeword code (word ++ s ∷ []) ↔ (((i : ℕ) → i < length word → Fits code i (get_or word i 0))
    × Fits code (length word) s
    × ((v + get_or code.weights (length word) 0 * s) % code.modulus ≡ code.residue % code.modulus))
appended_word code word s v whole is =
    let w = get_or code.weights (length word) 0 in
    let leaves = ap (λ k. (k + w * s) % code.modulus) is ∙ mod-add-mod _ _ (w * s) in
    search (arith, leaves, length-append, appended_symbol, get_or-append, get_or-append_seam, cases_lt)
