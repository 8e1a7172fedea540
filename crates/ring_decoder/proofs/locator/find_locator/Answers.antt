use Rattle.std.proofs.Math.Nat.{zero-mod}
use Rattle.num_modular.specs.Callers.{◌≡◌, ◌∙◌, ◌%◌, ap, arith, inl, inr, length}
use Rattle.ring_decoder.proofs.LocatorSteps.{search_start, all_none}
use Rattle.ring_decoder.proofs.locator.find_locator.Goals as goal

pub moments-init : goal.moments-init
moments-init g c =
    let m = g.R.Reducer.modulus c.args.r.now in let positive = (g.met.R.Reducer.canonical c.args.r.now).positive in
    let one = c.transform-one.ensures.value ∙ ap (λ v. v % m) c.one.ensures in
    let none = c.transform-zero.ensures.value ∙ ap (λ v. v % m) c.zero.ensures ∙ zero-mod m in (
      c.set_constant.ensures.checked,
      c.set_constant-2.ensures.checked,
      c.transform-one.ensures.checked,
      c.transform-one.ensures.checked,
      search_start m _ _ _ _ _ _ positive (c.set_constant.ensures.constant ∙ one) c.set_constant.ensures.others
          (all_none _ (c.set_constant-2.ensures.constant ∙ none) c.set_constant-2.ensures.others) one one,
      omega arith,
      omega arith,
    )

pub moments-preserved : goal.moments-preserved
moments-preserved g c =
    let so_far = c.moments.invariant in let made = c.in-Some.ensures in (
      made.checked_first,
      made.checked_second,
      made.forms.0,
      made.forms.1,
      made.advanced,
      omega (arith, made.counted, so_far.5),
      omega (arith, made.grown, so_far.6),
    )

pub returns-clause-located : goal.returns-clause-located
returns-clause-located g c =
    let all : c.moments.i ≡ length c.args.moments.now = omega arith in let found = c.moments.invariant.4 in
    record { short = found.short; behind = found.behind; recurrence = rw all at found.recurrence; least = found.least }

pub returns-clause-unit : goal.returns-clause-unit
returns-clause-unit g c unit = (c.moments.invariant.4.units unit).1

pub returns-clause-one : goal.returns-clause-one
returns-clause-one g c u x some geometric = elim (c.moments.invariant.4.of_one u x geometric) [
  | inl start ↦ absurd (omega (arith, start.0, some))
  | inr (inl first) ↦ absurd (omega (arith, first.0, some))
  | inr (inr after) ↦ after.1
]
