use Rattle.std.proofs.Common.{◌^◌, ◌-◌}
use Rattle.modular_reduced.specs.Forms.{IsForm}
use Rattle.modular_word.specs.Congruence.{Congruent}
use Rattle.modular_transform.proofs.transform.root_fits.Given as goal

-- t - 1 squares are done
abbrev pub invariant-squares : goal.invariant-squares
invariant-squares g l =
    let m = g.R.Reducer.modulus l.r in
    let number = g.T.RingWord.number in
    let value = g.R.Reducer.value in
    record {
      form : IsForm g.R.Reducer.form value m (number l.power);
      power : Congruent m (value m (number l.power)) (value m (number l.g) ^ (2 ^ (l._done - 1)));
    }
