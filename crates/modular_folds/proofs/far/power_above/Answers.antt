use Rattle.std.proofs.Common.{◌≡◌, ◌∙◌, ◌+◌, ◌%◌, ◌^◌, ap, arith, sym}
use Rattle.std.proofs.Math.Nat.{mod-mod}
use Rattle.modular_folds.proofs.FoldSteps.{power_fits, doubled_keeps, next_power}
use Rattle.modular_folds.proofs.FoldBounds.{doubled_fits}
use Rattle.modular_folds.proofs.far.power_above.Goals as goal

pub plus-mask-requires : goal.plus-mask-requires
plus-mask-requires g c =
    omega (arith, power_fits c.requires.folding, c.one.ensures, c.minus.ensures, c.requires.folding.whole)

pub plus-requires : goal.plus-requires
plus-requires g c = search (arith, doubled_fits)

pub plus-mask-requires-in-doubled : goal.plus-mask-requires-in-doubled
plus-mask-requires-in-doubled g c = search (arith, doubled_fits)

pub plus-requires-in-doubled : goal.plus-requires-in-doubled
plus-requires-in-doubled g c =
    let free = doubled_fits g.V.RingWord.width c.args.p (omega (arith, c.requires.inside)) in
    omega (arith, free, c.doubled.invariant.below, c.requires.folding.whole)

pub doubled-preserved : goal.doubled-preserved
doubled-preserved g c =
    let m = g.V.RingWord.number c.args.m in
    let e = c.args.p + c.doubled.done in
    let next : c.args.p + (c.doubled.done + 1) ≡ e + 1 = omega arith in
    record {
      most = omega (arith, c.doubled-test.true);
      mask = omega (
        arith,
        ap (λ k. 2 ^ k) next ∙ next_power e,
        c.doubled.invariant.mask,
        c.one-in-doubled.ensures,
        c.plus.ensures,
        c.plus-mask-in-doubled.ensures,
      );
      same = ap (λ k. k % m) (c.reduced_last-factor.ensures.value ∙ ap (λ k. k % m) c.plus-in-doubled.ensures)
          ∙ mod-mod (g.V.RingWord.number c.doubled.factor + g.V.RingWord.number c.doubled.factor) m
          ∙ doubled_keeps e (g.V.RingWord.number c.doubled.factor) m c.doubled.invariant.same
          ∙ ap (λ k. 2 ^ k % m) (sym next);
      below = c.reduced_last-factor.ensures.below;
    }
