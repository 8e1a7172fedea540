use Rattle.std.proofs.Common.{◌≡◌, ◌+◌, ◌^◌, All}
use Rattle.modular_word.specs.Congruence.{Congruent}
use Rattle.modular_reduced.specs.Entries.{entry}
use Rattle.modular_reduced.specs.Forms.{IsForm}
use Rattle.modular_transform.proofs.PairLemmas.{PairsBelow}
use Rattle.modular_transform.proofs.stage.first_stage.Given as goal

-- the pairs of the columns before this one are done
abbrev pub invariant-columns : goal.invariant-columns
invariant-columns g l =
    let m = g.R.Reducer.modulus l.r in
    let number = g.T.RingWord.number in
    let value = g.R.Reducer.value in
    let w = value m (number l.root) in
    record {
      checked : All (λ f. IsForm g.R.Reducer.form value m (number f)) l.forms;
      form : IsForm g.R.Reducer.form value m (number l.power);
      power : Congruent m (value m (number l.power)) (w ^ l.i);
      done : PairsBelow m w l.half l.i (entry number value m l.fn.forms) (entry number value m l.forms);
      count : l.products ≡ l.i + l.i;
    }
