use Rattle.std.proofs.Common.{◌*◌, ◌%◌, ◌^◌, ◌<◌, length, ◌∙◌, ap, arith, refl}
use Rattle.modular_reduced.specs.Entries.{entry}
use Rattle.modular_reduced.specs.EntryLaws.{entry_read, form_read}
use Rattle.modular_reduced.proofs.ListSteps.{each_taken, held_values, held_checked, written_below_next_index}
use Rattle.modular_monty.specs.TwoParts.{two_part_form, two_part_value}
use Rattle.modular_monty.specs.TwoPartLaws.{two_part_canonical}
use Rattle.modular_monty.proofs.TwoPartSteps.{scaled_made, all_high, unshifted_part_is_whole}
use Rattle.modular_monty.proofs.montgomery.MontgomeryReducer.scale_entries.Goals as goal

pub returns-then-self-eq0 : goal.returns-then-self-eq0
returns-then-self-eq0 g c =
    let number = g.T.RingWord.number in let w = g.T.RingWord.width in let value = two_part_value w in
    let none = c.if-self-eq0.true in
    let k = number c.args.self.now.odd.kept.modulus in let m = k * 2 ^ c.args.self.now.twos in
    let by = number c.reduced_factor-value.result.0 in let factor = value m (number c.args.factor.now) in
    let canonical = two_part_canonical c.args.self.now.ring in let forms = c.multiply_by_factor.new.xs in
    let held = each_taken number (two_part_form w) value m (λ f. (f * by) % k) (λ v. (v * factor) % m) c.args.xs.now
    forms
    (λ f form.
    (scaled_made c.args.self.now.ring form c.requires.factor (all_high _ f none) c.high.ensures.value
    c.merge-high.ensures.value c.zero.ensures c.reduced_factor-value.ensures.reduction refl refl
    (unshifted_part_is_whole _ ((f * by) % k) _ none)).form)
    c.requires.checked c.multiply_by_factor.auto.xs c.multiply_by_factor.ensures in
    record {
      entries = held;
      values = λ i l. held_values number forms _ i canonical held (omega (arith, l, c.multiply_by_factor.auto.xs));
      checked = held_checked number forms _ canonical held;
    }

pub entries-preserved : goal.entries-preserved
entries-preserved g c =
    let number = g.T.RingWord.number in let w = g.T.RingWord.width in
    let form = two_part_form w in let value = two_part_value w in
    let m = number c.args.self.now.odd.kept.modulus * 2 ^ c.args.self.now.twos in
    let i = c.entries.i in let xs = c.entries.xs in let x = c.index-xs-i.result in let before = c.entries.invariant in
    let old = entry number value m c.args.xs.now in let factor = value m (number c.args.factor.now) in
    let within : i < length xs = omega arith in
    let x_is = entry_read number value m xs i x within c.index-xs-i.is ∙ before.done.kept i (omega arith) in
    let made = scaled_made c.args.self.now.ring (form_read number form value m xs i x before.checked within
    c.index-xs-i.is)
    c.requires.factor c.high-in-entries.ensures.value c.high.ensures.value c.merge-high.ensures.value c.zero.ensures
    c.reduced_factor-value.ensures.reduction c.product_by_factor-product.ensures c.wrapping_mul.ensures.value
    c.form_of_parts.ensures in
    written_below_next_index number form value m xs i c.form_of_parts.result (λ k. (old k * factor) % m) old within
    before
    made.checked (made.value ∙ ap (λ v. (v * factor) % m) x_is)
