-- The powers of a strip of columns, one after another.
use Rattle.std.proofs.Common.{◌≡◌, ℕ, ◌+◌, ◌*◌, ◌%◌, ◌^◌, All, replicate, arith}
use Rattle.std.proofs.Math.Nat.{pow-zero}
use Rattle.std.proofs.lemmas.List.Elements.{All-replicate}
use Rattle.std.proofs.lemmas.Nat.{pow-add}
use Rattle.modular_word.specs.Congruence.{Congruent}
use Rattle.modular_word.proofs.Congruence.{mod_of_eq, mod_refl, mod_trans, mod_mul, residue_of}
use Rattle.modular_word.proofs.Powers.{pow-one}
use Rattle.modular_reduced.specs.Forms.{Represents, IsForm, IsCanonical}

-- a strip of one form
pub one_form : {T : Type 0} (number : T → ℕ) (form value : ℕ → ℕ → ℕ) (m n : ℕ) (x : T) → IsForm form value m (number x)
    → All (λ f. IsForm form value m (number f)) (replicate n x)
one_form {T} number form value m n x is = let P = λ (f : T). IsForm form value m (number f) in All-replicate P n x is

-- the first running power is 1
pub start_is_zeroth_power : {form value : ℕ → ℕ → ℕ} {width m f one : ℕ} (w : ℕ) → IsCanonical form value width m
    → one ≡ 1
    → Represents form m f (one % m)
    → Congruent m (value m f) (w ^ 0)
start_is_zeroth_power {form} {value} {width} {m} {f} {one} w canonical is_one is =
    grind (arith, mod_trans, mod_of_eq, residue_of, pow-zero)

-- the next power
pub next_running_power_congruent : {form value : ℕ → ℕ → ℕ} {width m f p : ℕ} (w i : ℕ) → IsCanonical form value width m
    → Congruent m (value m f) (w ^ i) → Represents form m p ((value m f * w) % m)
    → Congruent m (value m p) (w ^ (i + 1))
next_running_power_congruent {form} {value} {width} {m} {f} {p} w i canonical is next =
    search (arith, mod_trans, mod_of_eq, residue_of, mod_mul, mod_refl, pow-one, pow-add)
