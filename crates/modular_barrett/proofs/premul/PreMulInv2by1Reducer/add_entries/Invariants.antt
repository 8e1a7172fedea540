use Rattle.std.proofs.Common.{◌/◌, ◌%◌, ◌^◌, ◌+◌}
use Rattle.modular_reduced.specs.Entries.{entry}
use Rattle.modular_reduced.proofs.ListSteps.{WrittenBelow}
use Rattle.modular_barrett.specs.Scaling.{scaled_form, scaled_value}
use Rattle.modular_barrett.proofs.premul.PreMulInv2by1Reducer.add_entries.Given as goal

-- the first i entries are done
abbrev pub invariant-halves : goal.invariant-halves
invariant-halves g l =
    let number = g.T.RingWord.number in let w = g.T.RingWord.width in
    let m = number l.self.divider.divisor / 2 ^ l.self.shift in
    let old = entry number (scaled_value w) m l.fn.xs in let y = entry number (scaled_value w) m l.fn.ys in
    WrittenBelow number (scaled_form w) (scaled_value w) m (λ k. (old k + y k) % m) l.i old l.xs
