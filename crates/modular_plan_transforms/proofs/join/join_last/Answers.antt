use Rattle.std.proofs.Common.{◌≡◌, ◌*◌, ◌/◌, length, sym, ◌∙◌, arith}
use Rattle.std.proofs.Math.Nat.{zero-mul, mod-eq_of_lt}
use Rattle.modular_plan_passes.specs.Plans.{numbers}
use Rattle.modular_plan_passes.proofs.FourColumns.{fours_below}
use Rattle.modular_plan_passes.proofs.Entries.{number_read, all_below}
use Rattle.modular_plan_transforms.proofs.LastJoins.{last_joined, numbers_past, two_entries}
use Rattle.modular_plan_transforms.proofs.join.join_last.Goals as goal

pub returns-then-is_one : goal.returns-then-is_one
returns-then-is_one g c = record {
  below = (let fill : 4 * c.args.last ≡ length c.args.xs.now =
      rw c.if-xs-last-eq4.true at c.requires.ready.blocks.whole in
      all_below _ _ (length c.args.xs.now) _ (omega (arith, c.quarters.auto.xs))
      (λ k l. fours_below k c.quarters.ensures (omega arith) (omega (arith, fill, l))));
  joined = (let n = g.T.RingWord.number in
      let value = g.F.PlanEntry.value in
      let m = g.M.JoinSteps.modulus c.args.m.now in
      let s = n c.args.w.now.value in
      let table = c.args.table.now in
      let before = c.args.xs.now in
      let after = c.quarters.new.xs in
      let last = c.args.last in
      let count = length before / last in
      let no_b = c.if-b-eq0.true in
      let four : count ≡ 4 = c.if-xs-last-eq4.true in
      let blocks = c.requires.ready.blocks in
      let zero = number_read value table 0 _ (omega (arith, two_entries _ _ _ no_b four blocks.within))
      c.index-table-0.is in
      let begins = sym zero ∙ sym c.factor.ensures.value ∙ c.is_one.ensures.0 c.if-is_one.true in
      let same : length after ≡ length before = omega (arith, c.quarters.auto.xs) in
      let fill : 4 * last ≡ length before = rw four at blocks.whole in
      λ r z x twiddles are i l.
      let inverse = (c.minus_inverses-v.ensures.inverses r z twiddles).high in
      let joined = last_joined r z c.args.b last count (length before) (length table) s (numbers value table) x
      (numbers n before) (numbers n after) blocks.some no_b four blocks.count blocks.whole blocks.within
      twiddles begins are (λ k h. (c.quarters.ensures.fours k h).done.each _ inverse)
      (λ k h. numbers_past n after k (omega (arith, same, h))
      ∙ sym (rw (numbers_past n before k h) (zero-mul s))) i l in
      sym (mod-eq_of_lt (fours_below i c.quarters.ensures (omega arith) (omega (arith, fill, l)))) ∙ joined.same);
}
