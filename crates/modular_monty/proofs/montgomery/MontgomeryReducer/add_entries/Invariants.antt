use Rattle.std.proofs.Common.{◌+◌, ◌*◌, ◌%◌, ◌^◌}
use Rattle.modular_reduced.specs.Entries.{entry}
use Rattle.modular_reduced.proofs.ListSteps.{WrittenBelow}
use Rattle.modular_monty.specs.TwoParts.{two_part_form, two_part_value}
use Rattle.modular_monty.proofs.montgomery.MontgomeryReducer.add_entries.Given as goal

-- the first i entries are done
abbrev pub invariant-entries : goal.invariant-entries
invariant-entries g l =
    let number = g.T.RingWord.number in let w = g.T.RingWord.width in
    let m = number l.self.odd.kept.modulus * 2 ^ l.self.twos in
    let old = entry number (two_part_value w) m l.fn.xs in let y = entry number (two_part_value w) m l.fn.ys in
    WrittenBelow number (two_part_form w) (two_part_value w) m (λ k. (old k + y k) % m) l.i old l.xs
