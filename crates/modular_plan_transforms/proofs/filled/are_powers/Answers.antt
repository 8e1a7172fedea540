use Rattle.std.proofs.Common.{Bool, true, false, not, ◌≡◌, ◌<◌, length, ap, sym, ◌∙◌, arith, refl, below_more}
use Rattle.std.proofs.lemmas.Bool.{false≢true}
use Rattle.modular_plan_passes.specs.Plans.{numbers}
use Rattle.modular_plan_passes.proofs.Entries.{number_read}
use Rattle.modular_transform.specs.Orders.{bits_reversed}
use Rattle.modular_transform.proofs.BitReversal.{bits_reversed_below, bits_reversed_of_zero, bits_reversed_twice}
use Rattle.modular_plan_transforms.proofs.PlanTables.{power_first, power_next}
use Rattle.modular_plan_transforms.proofs.filled.are_powers.Goals as goal
use Rattle.modular_plan_transforms.proofs.filled.are_powers.Goals.{After-next_reversed-place}
use borrow.Author.Count.{falls}

pub powers-init : goal.powers-init
powers-init g c = search (arith, power_first, bits_reversed_of_zero)

pub powers-smaller : goal.powers-smaller
powers-smaller g c = falls _ _ c.powers-test.true

-- where the power that is tried stands
next_place_within_table : (g : _) (c : After-next_reversed-place g)
    → c.next_reversed-place.result < length c.args.table.now
next_place_within_table g c =
    omega (arith, bits_reversed_below c.args.bits c.powers.exponent, c.next_reversed-place.ensures, c.requires.whole)

pub bounds-table-place : goal.bounds-table-place
bounds-table-place g c = next_place_within_table g (goal.at.bounds-table-place g c).After-next_reversed-place

pub offset_bounds-table-place : goal.offset_bounds-table-place
offset_bounds-table-place g c =
    omega (arith, next_place_within_table g (goal.at.offset_bounds-table-place g c).After-next_reversed-place)

unequal_not : (b : Bool) → not b ≡ false → b ≡ true
unequal_not true e = refl
unequal_not false e = absurd (false≢true (sym e))

pub returns-then-ne : goal.returns-then-ne
returns-then-ne g c = (
  λ t. absurd (false≢true t),
  λ all.
      let place = c.next_reversed-place.result in
      let within = next_place_within_table g (goal.at.returns-then-ne g c).After-next_reversed-place in
      let back = ap (bits_reversed c.args.bits) c.next_reversed-place.ensures
      ∙ bits_reversed_twice c.args.bits c.powers.exponent (omega (arith, c.powers-test.true, c.requires.whole)) in
      let value = c.factor.ensures.value ∙ number_read g.F.PlanEntry.value _ place _ within c.index-table-place.is in
      let same = (g.met.T.RingWord.equal c.factor.result.value c.powers.power).1
      (value ∙ (rw back at (all place within)) ∙ sym c.powers.invariant.power) in
      absurd (false≢true (sym (c.ne.ensures ∙ ap not same) ∙ c.if-ne.true)),
)

pub powers-preserved : goal.powers-preserved
powers-preserved g c =
    let within = next_place_within_table g (goal.at.powers-preserved g c).After-next_reversed-place in
    let value = c.factor.ensures.value ∙ number_read g.F.PlanEntry.value _ _ _ within c.index-table-place.is in
    let here = ap (numbers g.F.PlanEntry.value c.args.table.now) (sym c.next_reversed-place.ensures) in
    let same = (g.met.T.RingWord.equal c.factor.result.value c.powers.power).0
    (unequal_not _ (sym c.ne.ensures ∙ c.if-ne.false)) in
    record {
      power = power_next _ (g.T.RingWord.number c.args.g) c.powers.exponent _ _ c.powers.invariant.power
          (rw c.factor-root.ensures.value at c.product-power.ensures);
      place = c.next_reversed-place.ensures ∙ ap (bits_reversed c.args.bits) (omega arith);
      passed = below_more _ _ c.powers.invariant.passed (here ∙ sym value ∙ same ∙ c.powers.invariant.power);
    }

pub returns : goal.returns
returns g c = search (arith, bits_reversed_twice, bits_reversed_below)
