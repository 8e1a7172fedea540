-- What a test of a word that failed says.
use Rattle.std.proofs.Common.{◌≡◌, ℕ, ◌<◌, ◌≤◌, ◌↔◌, Bool, false, IsTrue, arith}
use Rattle.std.proofs.lemmas.Bool.{iff_false}

-- a number that isn't below another
pub at_least_by_false_test : {b : Bool} {x y : ℕ} → (IsTrue b ↔ (x < y)) → b ≡ false → y ≤ x
at_least_by_false_test below is = omega (arith, iff_false below is)

-- a number that isn't 0
pub positive_by_false_test : {b : Bool} {x : ℕ} → (IsTrue b ↔ (x ≡ 0)) → b ≡ false → 0 < x
positive_by_false_test is_zero is = omega (arith, iff_false is_zero is)
