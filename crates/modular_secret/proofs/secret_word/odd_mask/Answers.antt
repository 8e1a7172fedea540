use Rattle.std.proofs.Common.{◌%◌, ap, ◌∙◌}
use Rattle.modular_word.proofs.Powers.{pow-one}
use Rattle.modular_secret.proofs.Masks.{all_of_one, none_of_zero}
use Rattle.modular_secret.proofs.secret_word.odd_mask.Goals as goal

pub returns : goal.returns
returns g c =
    let bit = c.low_bits.ensures.value ∙ ap (λ k. g.T.RingWord.number c.args.x % k) (pow-one _) in
    let minus = c.wrapping_sub.ensures in
    record {
      all = λ odd. all_of_one _ _ _ (bit ∙ odd) (minus.value ∙ c.zero.ensures) minus.fits;
      none = λ even. none_of_zero _ _ _ (bit ∙ even) (minus.value ∙ c.zero.ensures) minus.fits;
    }
