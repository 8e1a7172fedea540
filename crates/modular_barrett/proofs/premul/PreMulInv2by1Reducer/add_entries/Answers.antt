use Rattle.std.proofs.Common.{ℕ, ◌+◌, ◌%◌, ◌/◌, ◌^◌, ◌∙◌, ap, arith, refl, subst, sym}
use Rattle.modular_reduced.specs.Entries.{entry}
use Rattle.modular_reduced.specs.EntryLaws.{form_read}
use Rattle.modular_reduced.proofs.FormLemmas.{answered_by_form}
use Rattle.modular_reduced.proofs.ListPairs.{operation_written_at_index, pairs_taken}
use Rattle.modular_reduced.proofs.ListSteps.{list_answered}
use Rattle.modular_barrett.specs.Scaling.{scaled_form, scaled_value}
use Rattle.modular_barrett.specs.ScaledForms.{scaled_canonical}
use Rattle.modular_barrett.proofs.ScaledLemmas.{form_below, sum_stands}
use Rattle.modular_barrett.proofs.premul.PreMulInv2by1Reducer.add_entries.Goals as goal

pub sum_by_halves-requires-clause-left : goal.sum_by_halves-requires-clause-left
sum_by_halves-requires-clause-left g c =
    let ring = c.args.self.now in let w = g.T.RingWord.width in
    form_read g.T.RingWord.number (scaled_form w) (scaled_value w)
    (g.T.RingWord.number ring.divider.divisor / 2 ^ ring.shift)
    c.halves.xs c.halves.i c.index-xs-i.result c.halves.invariant.checked (omega arith) c.index-xs-i.is

pub sum_by_halves-requires-clause-right : goal.sum_by_halves-requires-clause-right
sum_by_halves-requires-clause-right g c =
    let ring = c.args.self.now in let w = g.T.RingWord.width in
    form_read g.T.RingWord.number (scaled_form w) (scaled_value w)
    (g.T.RingWord.number ring.divider.divisor / 2 ^ ring.shift)
    c.args.ys.now c.halves.i c.index-ys-i.result c.requires.checked_ys (omega arith) c.index-ys-i.is

pub halves-preserved : goal.halves-preserved
halves-preserved g c =
    let ring = c.args.self.now in let number = g.T.RingWord.number in let value = scaled_value g.T.RingWord.width in
    let m = number ring.divider.divisor / 2 ^ ring.shift in
    let made = answered_by_form (scaled_canonical ring.scaling) c.sum_by_halves.ensures in
    let op : ℕ → ℕ → ℕ = λ v w. (v + w) % m in let y = value m (number c.index-ys-i.result) in
    operation_written_at_index _ _ _ _ _ _ _ c.index-xs-i.result c.index-ys-i.result c.sum_by_halves.result op
    (entry number value m c.args.xs.now) (omega arith) (omega arith) c.index-ys-i.is c.halves.invariant made.checked
    (made.value ∙ ap (λ x. op (value m (number x)) y) c.index-xs-i.is)

pub add_each-requires-clause-left : goal.add_each-requires-clause-left
add_each-requires-clause-left g c = λ i d l. form_below _ _ _ _ c.divisor.ensures.scaled (c.requires.checked_xs i d l)

pub add_each-requires-clause-right : goal.add_each-requires-clause-right
add_each-requires-clause-right g c = λ i d l. form_below _ _ _ _ c.divisor.ensures.scaled (c.requires.checked_ys i d l)

pub returns-else-takes_signs : goal.returns-else-takes_signs
returns-else-takes_signs g c =
    let ring = c.args.self.now in let number = g.T.RingWord.number in let w = g.T.RingWord.width in
    let m = number ring.divider.divisor / 2 ^ ring.shift in let d = number c.divisor.result in
    let op : ℕ → ℕ → ℕ → ℕ = λ n v w. (v + w) % n in
    list_answered _ (scaled_canonical ring.scaling)
    (pairs_taken number (scaled_form w) (scaled_value w) m (op d) (op m) c.args.xs.now c.args.ys.now _
    (λ f h is_f is_h. sum_stands w m d f h _ ring.scaling.positive c.divisor.ensures.scaled is_f is_h refl)
    c.requires.checked_xs c.requires.checked_ys c.requires.equal c.add_each.auto.xs c.add_each.ensures)
    c.add_each.auto.xs
