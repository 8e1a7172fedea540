use Rattle.num_modular.specs.Callers.{◌%◌, ◌∙◌, sym, refl, arith, length, entry, values_below, mod-eq_of_lt}
use Rattle.num_modular.specs.Polynomials.{polynomial_at}
use Rattle.ring_codes.proofs.Distances.{same_messages}
use Rattle.ring_correction.proofs.search.find_without_syndromes.Goals as goal

pub returns-then-is_codeword : goal.returns-then-is_codeword
returns-then-is_codeword g c =
    let m = g.R.Reducer.modulus c.args.r.now in let k = length c.args.message.now in
    let x = entry g.T.RingWord.number g.R.Reducer.value m c.args.points.now in
    let is = c.is_codeword.ensures.message c.if-is_codeword.true in let checked =
    c.is_codeword.ensures.checked c.if-is_codeword.true in
    let fit = c.points_fit.ensures.0 (search (c.if-not-points_fit.false)) in record {
      fit = fit;
      checked = checked;
      forms = rw c.copy_from_slice.ensures.after c.requires.symbols;
      encoding = rw c.copy_from_slice.ensures.after is;
      only = λ sent near i l. sym (mod-eq_of_lt (values_below _ _ _ _ c.is_codeword.new.message i checked
          (omega arith)))
          ∙ (same_messages m k _ x _ sent _ (λ j. polynomial_at k sent (x j) % m) fit is (record {
            symbol =
                λ j b. refl;
          })
          (omega (arith, c.requires.few, near)) i l).same;
    }
