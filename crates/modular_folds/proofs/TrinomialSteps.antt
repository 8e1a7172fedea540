-- Facts of a trinomial that functions over 64 bits are passed, as they read them.
use Rattle.std.proofs.Common.{◌≡◌, ℕ, ℤ, ◌^◌, ◌<◌, ◌∙◌, w64}
use Rattle.std.specs.Int.Signed.{mag}
use Rattle.std.proofs.lemmas.Int.{to_z-of_z}
use Rattle.modular_folds.specs.Solinas.{IsLowTrinomial}
use mir.Val.{to_z, of_z}

-- the last term, read from its bits
pub term_read : (read : ℤ) {k : ℤ} → mag read < 2 ^ 63 → read ≡ k → to_z w64 (of_z w64 read) ≡ k
term_read read fits is = to_z-of_z w64 read (record { sfits = fits }) ∙ is

module _ {p1 p2 a b : ℕ} {k d : ℤ} (is_p1 : a ≡ p1) (is_p2 : b ≡ p2) (is_k : d ≡ k) where
  -- which is low where its parameters are
  pub low_passed : IsLowTrinomial p1 p2 k → IsLowTrinomial a b d
  low_passed low = rw (is_p1, is_p2, is_k) low
