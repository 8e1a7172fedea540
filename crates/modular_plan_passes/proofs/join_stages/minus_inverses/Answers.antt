use Rattle.std.proofs.Common.{◌≡◌, suc, ◌+◌, ◌*◌, ◌^◌, arith, refl, ◌∙◌}
use Rattle.std.proofs.Math.Nat.{two-pow-succ}
use Rattle.modular_plan_passes.specs.Plans.{numbers}
use Rattle.modular_plan_passes.proofs.Entries.{number_read}
use Rattle.modular_plan_passes.proofs.Mirrors.{mirror_of_twiddles, first_of_twiddles}
use Rattle.modular_plan_passes.proofs.FourColumns.{factor_read}
use Rattle.modular_plan_passes.proofs.Runs.{inverses_of, mirrored_inverses}
use Rattle.modular_plan_passes.proofs.join_stages.minus_inverses.Goals as goal

pub returns-then-place-eq0 : goal.returns-then-place-eq0
returns-then-place-eq0 g c = record {
  inverses = (let w = numbers g.F.PlanEntry.value c.args.table.now in
      let read = number_read g.F.PlanEntry.value c.args.table.now 1 _ (omega arith) c.index-table-1.is in
      let one : 2 ^ 0 ≡ 1 = refl in
      λ root z twiddles.
      let of_first = first_of_twiddles root z _ _ w twiddles (omega arith) c.requires.factors.is_minus in
      let of_second = mirror_of_twiddles root z _ 0 1 1 w twiddles (omega arith) (omega (arith, one))
      (omega (arith, one)) (omega (arith, one)) in
      grind (arith, of_first, of_second.inverse, c.factor.ensures.value, read));
  factors = (let minus = c.requires.factors.minus_factor in
      record {
        whole = minus;
        low = minus;
        high = factor_read g.F.PlanEntry.value g.F.PlanEntry.quotient _ 1 _ c.requires.factors.each (omega arith)
            c.index-table-1.is c.factor.ensures.value c.factor.ensures.quotient;
      });
}

pub returns-then-other-table : goal.returns-then-other-table
returns-then-other-table g c =
    let value = g.F.PlanEntry.value in
    let quotient = g.F.PlanEntry.quotient in
    let table = c.args.table.now in
    let w = numbers value table in
    let other = c.mirrored-other.result in
    let at = c.mirrored-other.ensures in
    let inside = c.if-other-table.true in
    let each = c.requires.factors.each in
    let own = c.factor-then-other-table.ensures in
    let low = c.factor-then-other-table-2.ensures in
    let high = c.factor-then-other-table-3.ensures in
    let own_read = c.index-table-other.is in
    let low_read = c.index-table-other-then-other-table.is in
    let high_read = c.index-table-other-then-other-table-2.is in
    record {
      inverses = λ root z twiddles.
          inverses_of (own.value ∙ number_read value table other _ (omega (arith, inside)) own_read)
          (low.value ∙ number_read value table (2 * other + 1) _ (omega (arith, inside)) low_read)
          (high.value ∙ number_read value table (2 * other) _ (omega (arith, inside)) high_read)
          (mirrored_inverses root z _ at.0 _ other w twiddles c.requires.within at.1 at.2 at.3);
      factors = record {
        whole = factor_read value quotient _ other _ each (omega (arith, inside)) own_read own.value own.quotient;
        low = factor_read value quotient _ (2 * other + 1) _ each (omega (arith, inside)) low_read low.value
            low.quotient;
        high = factor_read value quotient _ (2 * other) _ each (omega (arith, inside)) high_read high.value
            high.quotient;
      };
    }

pub returns-else-other-table : goal.returns-else-other-table
returns-else-other-table g c = record {
  inverses = (let at = c.mirrored-other.ensures in
      let two = two-pow-succ at.0 in
      λ root z twiddles.
      let mirror = mirror_of_twiddles root z _ (suc at.0) (2 * c.args.place) (2 * c.mirrored-other.result + 1) _
      twiddles (omega (arith, c.requires.within)) (omega (arith, two, at.1)) (omega (arith, two, at.2))
      (omega (arith, two, at.3)) in
      absurd (omega (arith, mirror.within, c.if-other-table.false)));
  factors = (let minus = c.requires.factors.minus_factor in
      record { whole = minus; low = minus; high = minus });
}
