-- The reduction of a sum of products of words, which is given as two words and a count of carries.
use Rattle.std.proofs.Common.{◌≡◌, ℕ, ◌+◌, ◌*◌, ◌%◌, ◌^◌, arith}
use Rattle.modular_word.specs.Congruence.{Congruent}
use Rattle.modular_word.specs.Reduction.{IsReduction}
use Rattle.modular_word.proofs.Congruence.{mod_of_eq, mod_refl, mod_trans, mod_add, mod_mul, residue_of}

-- the reduction of the lowest two words, the high one modulo m
pub low_reduced : {m b t u high rest s : ℕ} (low before : ℕ) → IsReduction b m t u → t ≡ low + b * rest
    → Congruent m rest high → s ≡ low + b * high → Congruent m (u * b + before) (s + before)
low_reduced {m} {b} {t} {u} {high} {rest} {s} low before is parts same whole =
    let reduced : Congruent m (u * b) t = record { same = is.congruent } in
    let high_same : Congruent m (low + b * rest) (low + b * high) =
    mod_add (mod_refl low) (mod_mul (mod_refl b) same) in
    grind (arith, mod_add, mod_trans, mod_of_eq, mod_refl)

-- the form of a count of carries
pub carries_formed : {m b v : ℕ} (w c : ℕ) → b ≡ 2 ^ w → v ≡ (c % m * 2 ^ w) % m → Congruent m v (c * b)
carries_formed {m} {b} {v} w c base is = grind (arith, mod_trans, mod_of_eq, residue_of, mod_mul)

-- the reduction with that form added
pub carries_added : {m v h : ℕ} (b u c s before : ℕ) → Congruent m (u * b + before) (s + before) → Congruent m v (c * b)
    → h ≡ (u + v) % m → Congruent m (h * b + before) (s + b * b * c + before)
carries_added {m} {v} {h} b u c s before reduced formed is =
    let sum : Congruent m (h * b) ((u + v) * b) = mod_mul (mod_trans (mod_of_eq is) (residue_of (u + v))) (mod_refl b)
    in
    let spread : (u + v) * b + before ≡ u * b + before + v * b = omega arith in
    mod_trans (mod_add sum (mod_refl before)) (mod_trans (mod_of_eq spread)
    (mod_trans (mod_add reduced (mod_mul formed (mod_refl b))) (mod_of_eq (omega arith))))

-- the reduction of one more block, added to those before it
pub reduced_block_extends_sum : {m h : ℕ} (b s t r before after : ℕ) → Congruent m (t * b) (s * b + before)
    → Congruent m (r * b + before) after → h ≡ (t + r) % m → Congruent m (h * b) (s * b + after)
reduced_block_extends_sum {m} {h} b s t r before after so_far block is =
    let sum : Congruent m (h * b) ((t + r) * b) = mod_mul (mod_trans (mod_of_eq is) (residue_of (t + r))) (mod_refl b)
    in
    let spread : (t + r) * b ≡ t * b + r * b = omega arith in
    mod_trans sum (mod_trans (mod_of_eq spread)
    (mod_trans (mod_add so_far (mod_refl (r * b)))
    (mod_trans (mod_of_eq (omega arith)) (mod_add (mod_refl (s * b)) block))))
