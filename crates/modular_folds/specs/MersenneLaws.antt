-- Laws of a modulus 2^p - k whose parameters are in range: proofs that the impls declare. The names are the
-- library's own words.
use Rattle.std.proofs.Common.{ℕ, ◌≤◌, arith, lit<}
use Rattle.std.proofs.Math.Nat.{pow-le-pow_right}
use Rattle.modular_reduced.specs.Forms.{IsCanonical}
use Rattle.modular_reduced.specs.Plain.{plain_form, plain_value, plain_canonical}
use Rattle.modular_folds.specs.Mersenne.{IsMersenneRange, mersenne}

-- it is above 0 and fits a word of at least as many bits, so that the form of each value can be the value itself
pub mersenne_canonical : {w p k : ℕ} → (v : ℕ) → w ≤ v → IsMersenneRange w p k
    → IsCanonical plain_form plain_value v (mersenne p k)
mersenne_canonical v wide r =
    let most = pow-le-pow_right {n = 2} (lit< tt) r.fits in
    let more = pow-le-pow_right {n = 2} (lit< tt) wide in
    plain_canonical v _ (omega (arith, r.half)) (omega (arith, most, more, r.half, r.odd))
