use Rattle.std.proofs.Common.{ℕ, ◌+◌, ◌%◌, ◌*◌, ◌^◌, arith, refl}
use Rattle.modular_reduced.specs.Entries.{entry}
use Rattle.modular_reduced.proofs.ListPairs.{operation_written_at_index, pairs_taken}
use Rattle.modular_reduced.proofs.ListSteps.{list_answered, written_all}
use Rattle.modular_monty.specs.TwoParts.{two_part_form, two_part_value}
use Rattle.modular_monty.specs.TwoPartLaws.{two_part_canonical}
use Rattle.modular_monty.proofs.MontgomerySteps.{form_below, sum_made}
use Rattle.modular_monty.proofs.TwoPartSteps.{odd_checked, odd_answered}
use Rattle.modular_monty.proofs.montgomery.MontgomeryReducer.add_entries.Goals as goal

pub add_each-requires-clause-left : goal.add_each-requires-clause-left
add_each-requires-clause-left g c = λ i d l. let r = c.args.self.now.ring in
    form_below r.odd (odd_checked r c.if-self-eq0.true (c.requires.checked_xs i d l))

pub add_each-requires-clause-right : goal.add_each-requires-clause-right
add_each-requires-clause-right g c = λ i d l. let r = c.args.self.now.ring in
    form_below r.odd (odd_checked r c.if-self-eq0.true (c.requires.checked_ys i d l))

pub returns-then-self-eq0 : goal.returns-then-self-eq0
returns-then-self-eq0 g c =
    let number = g.T.RingWord.number in let w = g.T.RingWord.width in let r = c.args.self.now.ring in
    let none = c.if-self-eq0.true in let k = number c.args.self.now.odd.kept.modulus in
    let m = k * 2 ^ c.args.self.now.twos in let op : ℕ → ℕ → ℕ → ℕ = λ n v w. (v + w) % n in
    list_answered _ (two_part_canonical r)
    (pairs_taken number (two_part_form w) (two_part_value w) m (op k) (op m) c.args.xs.now c.args.ys.now _
    (λ f h is_f is_h. (odd_answered r none (λ v n. (v f + v h) % n)
    (sum_made r.odd (odd_checked r none is_f) (odd_checked r none is_h) refl).form).form)
    c.requires.checked_xs c.requires.checked_ys c.requires.equal c.add_each.auto.xs c.add_each.ensures)
    c.add_each.auto.xs

pub entries-preserved : goal.entries-preserved
entries-preserved g c =
    let number = g.T.RingWord.number in let value = two_part_value g.T.RingWord.width in
    let m = number c.args.self.now.odd.kept.modulus * 2 ^ c.args.self.now.twos in
    operation_written_at_index _ _ _ _ _ _ _ c.index-xs-i.result c.index-ys-i.result c.add.result (λ v w. (v + w) % m)
    (entry number value m c.args.xs.now) (omega arith) (omega arith) c.index-ys-i.is
    c.entries.invariant c.add.ensures.checked c.add.ensures.value

pub returns-clause-entries : goal.returns-clause-entries
returns-clause-entries g c = written_all c.entries.invariant (omega arith)
