-- A law of the scaled forms: a proof that the reducer's impl declares. Its name is the library's own word.
use Rattle.std.specs.Prelude.{ℕ, ◌*◌, ◌/◌, ◌^◌, ◌<◌}
use Rattle.std.specs.Int.Count.{count_leading_zeros}
use Rattle.std.proofs.Common.{ap, ◌∙◌, subst, arith, ◌≤◌}
use Rattle.std.proofs.Math.Nat.{mul-le-mul_right}
use Rattle.std.proofs.lemmas.Nat.{shl-shr}
use Rattle.modular_reduced.specs.Forms.{IsCanonical}
use Rattle.modular_barrett.specs.Scaling.{scale, scaled_form, scaled_value, IsScaling}

-- modulo m each value has exactly one scaled form, which is a word, and each scaled form exactly one value
pub scaled_canonical : {w m d s : ℕ} → IsScaling w m d s → IsCanonical (scaled_form w) (scaled_value w) w m
scaled_canonical {w} {m} {d} {s} is = record {
  positive = is.positive;
  one_value = λ f v h. ap (λ n. n / scale w m) h.same ∙ shl-shr v (count_leading_zeros w m);
  fits = λ v h.
      let whole : m * scale w m < 2 ^ w =
      subst (λ n. n < 2 ^ w) (is.scaled ∙ ap (λ n. m * 2 ^ n) is.zeros) is.fits in
      let below : v * scale w m ≤ m * scale w m = mul-le-mul_right (scale w m) (omega arith) in
      omega arith;
}
