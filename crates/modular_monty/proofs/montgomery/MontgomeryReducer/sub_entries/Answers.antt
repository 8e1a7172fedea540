use Rattle.std.proofs.Common.{ℕ, pos, ◌-ℤ◌, ◌*◌, ◌^◌, arith, refl}
use Rattle.modular_word.specs.Residues.{residue}
use Rattle.modular_reduced.specs.Entries.{entry}
use Rattle.modular_reduced.proofs.ListPairs.{operation_written_at_index, pairs_taken}
use Rattle.modular_reduced.proofs.ListSteps.{list_answered, written_all}
use Rattle.modular_monty.specs.TwoParts.{two_part_form, two_part_value}
use Rattle.modular_monty.specs.TwoPartLaws.{two_part_canonical}
use Rattle.modular_monty.proofs.MontgomerySteps.{form_below, difference_made}
use Rattle.modular_monty.proofs.TwoPartSteps.{odd_checked, odd_answered}
use Rattle.modular_monty.proofs.montgomery.MontgomeryReducer.sub_entries.Goals as goal

pub sub_each-requires-clause-left : goal.sub_each-requires-clause-left
sub_each-requires-clause-left g c = λ i d l. let r = c.args.self.now.ring in
    form_below r.odd (odd_checked r c.if-self-eq0.true (c.requires.checked_xs i d l))

pub sub_each-requires-clause-right : goal.sub_each-requires-clause-right
sub_each-requires-clause-right g c = λ i d l. let r = c.args.self.now.ring in
    form_below r.odd (odd_checked r c.if-self-eq0.true (c.requires.checked_ys i d l))

pub returns-then-self-eq0 : goal.returns-then-self-eq0
returns-then-self-eq0 g c =
    let number = g.T.RingWord.number in let w = g.T.RingWord.width in let r = c.args.self.now.ring in
    let none = c.if-self-eq0.true in let k = number c.args.self.now.odd.kept.modulus in
    let m = k * 2 ^ c.args.self.now.twos in let op : ℕ → ℕ → ℕ → ℕ = λ n v w. residue n (pos v -ℤ pos w) in
    list_answered _ (two_part_canonical r)
    (pairs_taken number (two_part_form w) (two_part_value w) m (op k) (op m) c.args.xs.now c.args.ys.now _
    (λ f h is_f is_h. (odd_answered r none (λ v n. residue n (pos (v f) -ℤ pos (v h)))
    (difference_made r.odd (odd_checked r none is_f) (odd_checked r none is_h) refl).form).form)
    c.requires.checked_xs c.requires.checked_ys c.requires.equal c.sub_each.auto.xs c.sub_each.ensures)
    c.sub_each.auto.xs

pub entries-preserved : goal.entries-preserved
entries-preserved g c =
    let number = g.T.RingWord.number in let value = two_part_value g.T.RingWord.width in
    let m = number c.args.self.now.odd.kept.modulus * 2 ^ c.args.self.now.twos in
    operation_written_at_index _ _ _ _ _ _ _ c.index-xs-i.result c.index-ys-i.result c.sub.result
    (λ v w. residue m (pos v -ℤ pos w))
    (entry number value m c.args.xs.now) (omega arith) (omega arith) c.index-ys-i.is
    c.entries.invariant c.sub.ensures.checked c.sub.ensures.value

pub returns-clause-entries : goal.returns-clause-entries
returns-clause-entries g c = written_all c.entries.invariant (omega arith)
