use Rattle.std.proofs.Common.{arith, sym, ◌∙◌}
use Rattle.modular_plan_passes.proofs.Entries.{number_read}
use Rattle.modular_plan_passes.proofs.Mirrors.{mirror_of_twiddles, first_of_twiddles}
use Rattle.modular_plan_passes.proofs.FourColumns.{factor_read}
use Rattle.modular_plan_passes.proofs.join_stages.minus_inverse.Goals as goal

pub returns-then-place-eq0 : goal.returns-then-place-eq0
returns-then-place-eq0 g c = record {
  inverse = (let within = c.requires.within in
      λ root z twiddles.
      let of_first = first_of_twiddles root z _ _ _ twiddles (omega (arith, within)) c.requires.factors.is_minus in
      grind (arith, of_first));
  factor = c.requires.factors.minus_factor;
}

pub returns-then-other-table : goal.returns-then-other-table
returns-then-other-table g c = record {
  inverse = (let read = number_read g.F.PlanEntry.value _ _ _ c.if-other-table.true c.index-table-other.is in
      let at = c.mirrored-other.ensures in
      λ root z twiddles.
      rw (sym (c.factor.ensures.value ∙ read)) at
      (mirror_of_twiddles root z _ at.0 _ _ _ twiddles c.requires.within at.1 at.2 at.3).inverse);
  factor = factor_read g.F.PlanEntry.value g.F.PlanEntry.quotient _ _ _ c.requires.factors.each c.if-other-table.true
      c.index-table-other.is c.factor.ensures.value c.factor.ensures.quotient;
}

pub returns-else-other-table : goal.returns-else-other-table
returns-else-other-table g c = record {
  inverse = (let at = c.mirrored-other.ensures in
      λ root z twiddles.
      let mirror = mirror_of_twiddles root z _ at.0 _ _ _ twiddles c.requires.within at.1 at.2 at.3 in
      absurd (omega (arith, mirror.within, c.if-other-table.false)));
  factor = c.requires.factors.minus_factor;
}
