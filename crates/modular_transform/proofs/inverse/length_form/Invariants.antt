use Rattle.std.proofs.Common.{◌^◌}
use Rattle.modular_reduced.specs.Forms.{IsForm}
use Rattle.modular_word.specs.Congruence.{Congruent}
use Rattle.modular_transform.proofs.inverse.length_form.Given as goal

-- 1, doubled t times
abbrev pub invariant-doublings : goal.invariant-doublings
invariant-doublings g l =
    let m = g.R.Reducer.modulus l.r in
    let number = g.T.RingWord.number in
    let value = g.R.Reducer.value in
    record {
      form : IsForm g.R.Reducer.form value m (number l.length);
      count : Congruent m (value m (number l.length)) (2 ^ l._done);
    }
