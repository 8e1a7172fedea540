use Rattle.std.proofs.Common.{◌^◌, add-one, below_more}
use Rattle.std.proofs.Math.Nat.{pow-zero, pow-suc}
use Rattle.std.proofs.lemmas.Bool.{false≢true}
use Rattle.std.proofs.lemmas.Nat.{mul-mod_first}
use Rattle.num_modular.specs.Callers.{◌*◌, ◌%◌, ◌<◌, ◌∙◌, ap, sym, arith, length, entry_read, form_read}
use Rattle.ring_codes.proofs.Symbols.{same_forms, told_same, told_other}
use Rattle.ring_decoder.proofs.roots.are_powers.Goals as goal

pub points-init : goal.points-init
points-init g c =
    let m = g.R.Reducer.modulus c.args.r.now in (
      record {
        checked = c.transform-power.ensures.checked;
        same = c.transform-power.ensures.value ∙ ap (λ v. v % m) (c.one.ensures ∙ sym (pow-zero _));
      },
      λ j l. absurd (omega arith),
    )

pub returns-then-ne : goal.returns-then-ne
returns-then-ne g c =
    let ring = g.R.Reducer in let m = ring.modulus c.args.r.now in let number = g.T.RingWord.number in
    let points = c.args.points.now in let i = c.points.i in let next = c.points.invariant.0 in
    let below : i < length points = omega arith in
    let point = entry_read number ring.value m points i _ below c.index-points-i.is in
    let is = form_read number ring.form ring.value m points i _ c.requires.points below c.index-points-i.is in (
      λ t. absurd (false≢true t),
      λ (suits, powers).
          absurd (told_other _ _ _ c.ne.ensures c.if-ne.true
          (g.met.T.RingWord.equal c.index-points-i.result c.points.power)
          (same_forms ring.form ring.value m _ _ is next.checked
          (point ∙ powers.power i below ∙ sym next.same))),
    )

pub points-preserved : goal.points-preserved
points-preserved g c =
    let ring = g.R.Reducer in let m = ring.modulus c.args.r.now in let number = g.T.RingWord.number in
    let a = ring.value m (number c.args.g.now) in
    let points = c.args.points.now in let i = c.points.i in let next = c.points.invariant.0 in
    let below : i < length points = omega arith in
    let point = entry_read number ring.value m points i _ below c.index-points-i.is in
    let same = told_same _ _ _ c.ne.ensures c.if-ne.false (g.met.T.RingWord.equal c.index-points-i.result
    c.points.power) in (
      record {
        checked = c.mul-power.ensures.checked;
        same = c.mul-power.ensures.value ∙ ap (λ v. (v * a) % m) next.same ∙ mul-mod_first (a ^ i) a m
            ∙ ap (λ v. v % m) (sym (pow-suc a i) ∙ ap (λ k. a ^ k) (sym (add-one i)));
      },
      below_more _ _ c.points.invariant.1 (sym point ∙ ap (λ f. ring.value m f) same ∙ next.same),
    )
