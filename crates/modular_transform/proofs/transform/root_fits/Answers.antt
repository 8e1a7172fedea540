use Rattle.std.proofs.Common.{◌-◌, ◌^◌, sym, ◌∙◌, arith, subst}
use Rattle.std.proofs.lemmas.Bool.{false≢true}
use Rattle.modular_word.specs.Congruence.{Congruent}
use Rattle.modular_word.proofs.Congruence.{mod_of_eq}
use Rattle.modular_word.proofs.Powers.{pow-one}
use Rattle.modular_transform.proofs.PowersOfTwo.{power_of_two_tested, power_by_zeros, exponent_above_zero}
use Rattle.modular_transform.proofs.TransformLemmas.{root_more, suits_tested}
use Rattle.modular_transform.proofs.transform.root_fits.Goals as goal

pub returns-then-not-is_power_of_two : goal.returns-then-not-is_power_of_two
returns-then-not-is_power_of_two g c = search (arith, false≢true, power_of_two_tested)

pub squares-init : goal.squares-init
squares-init g c = record { form = c.requires; power = mod_of_eq (sym (pow-one _)) }

pub squares-preserved : goal.squares-preserved
squares-preserved g c =
    let m = g.R.Reducer.modulus c.args.r.now in
    let root = g.R.Reducer.value m (g.T.RingWord.number c.args.g.now) in
    record {
      form = c.sqr-power.ensures.checked;
      power = subst (λ k. Congruent m (g.R.Reducer.value m (g.T.RingWord.number c.sqr-power.result))
          (root ^ (2 ^ k))) (omega arith) (root_more root (c.squares._done - 1) _ _ c.squares.invariant.power
          ((g.met.R.Reducer.canonical c.args.r.now).one_value _ _ c.sqr-power.ensures.form));
    }

pub returns : goal.returns
returns g c =
    let canonical = g.met.R.Reducer.canonical c.args.r.now in
    let n = c.args.n in
    let whole = power_by_zeros _ ((power_of_two_tested n).0 (sym c.is_power_of_two.ensures
    ∙ c.if-not-is_power_of_two.false)) (omega arith) in
    let some = exponent_above_zero _ _ whole (omega arith) in
    let tested = suits_tested _ _ _ _ _ _ _ _ whole some (omega (arith, some)) c.squares.invariant.power c.one.ensures
    (canonical.one_value _ _ c.transform-one.ensures.form) (canonical.one_value _ _ c.add.ensures.form) in
    (λ h. tested.0 (c.is_zero.ensures.0 h), λ suits. c.is_zero.ensures.1 (tested.1 suits))
