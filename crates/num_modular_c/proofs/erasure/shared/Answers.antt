use Rattle.std.proofs.Common.{◌∙◌, ℕ, ◌<◌, ◌≤◌, List, length, slice_index, arith}
use Rattle.num_modular.specs.Inverses.{HasInverse}
use Rattle.num_modular.specs.Polynomials.{HaveUnitDifferences}
use Rattle.ring_codes.specs.Erasure.{IsShareFault}
use Rattle.ring_codes.specs.declared.erasure.secrets.ShareError.{ShareError}
use Rattle.ring_codes.specs.declared.erasure.secrets.ShareError.TheVariants as refused
use Rattle.num_modular_c.specs.Commands.{residues_of}
use Rattle.num_modular_c.proofs.erasure.shared.Goals as goal

-- what a secret is shared at: each of n points, and each difference of two, has an inverse
abbrev AreShareable : ℕ → ℕ → List ℕ → Type 0
AreShareable m n xs = ((i : ℕ) → i < n → HasInverse m (slice_index xs i)) × HaveUnitDifferences m n (slice_index xs)

-- no error is present there, where k is from 1 to n
no_share_fault : (m k n : ℕ) (xs : List ℕ) (e : ShareError) → 1 ≤ k → k ≤ n → AreShareable m n xs
    → IsShareFault m k n (slice_index xs) e → ⊥
no_share_fault m k n xs refused.NoCoefficients some enough right fault = absurd (omega (arith, some, fault))
no_share_fault m k n xs refused.TooFewPoints some enough right fault = absurd (omega (arith, enough, fault))
no_share_fault m k n xs refused.PointWithoutInverse some enough right fault = fault.2 right.0
no_share_fault m k n xs refused.PointsDontFit some enough right fault = fault.1 right.1

pub returns-in-Ok-clause-failure : goal.returns-in-Ok-clause-failure
returns-in-Ok-clause-failure g c none =
    let points = c.load_from.auto.forms ∙ c.split_at_mut-xs.ensures.front_len in
    absurd (none (rw (← points, ← c.load_from.ensures.values)
    (c.in-Ok.ensures.points_right.inverses, c.in-Ok.ensures.fit)))

pub returns-in-Err-clause-failure : goal.returns-in-Err-clause-failure
returns-in-Err-clause-failure g c none =
    let points = c.load_from.auto.forms ∙ c.split_at_mut-xs.ensures.front_len in
    let coefficients = c.load_from-2.auto.forms ∙ c.split_at_mut-forms.ensures.front_len in
    record {
      error = c.in-Err.error;
      code_is = c.share_code.ensures.code;
      reason = rw (← coefficients, ← points, ← c.load_from.ensures.values) c.in-Err.ensures.0;
      unchanged = c.in-Err.ensures.1;
    }

pub returns-in-Err-clause-did : goal.returns-in-Err-clause-did
returns-in-Err-clause-did g c inverses units =
    let points = c.load_from.auto.forms ∙ c.split_at_mut-xs.ensures.front_len in
    let coefficients = c.load_from-2.auto.forms ∙ c.split_at_mut-forms.ensures.front_len in
    let m = g.R.Reducer.modulus c.args.r.now in
    let fault : IsShareFault m (length c.args.coefficients.now) (length c.args.points.now)
    (slice_index (residues_of m c.args.points.now)) c.in-Err.error =
    rw (← coefficients, ← points, ← c.load_from.ensures.values) c.in-Err.ensures.0 in
    absurd (no_share_fault m _ _ _ c.in-Err.error c.requires.some c.requires.enough (inverses, units) fault)
