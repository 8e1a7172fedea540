use Rattle.std.proofs.Common.{arith}
use Rattle.num_modular_c.proofs.InPlace.{entry_done_more}
use Rattle.num_modular_c.proofs.word_lists.combine.Goals as goal

pub entries-preserved : goal.entries-preserved
entries-preserved g c =
    let kept = c.entries.invariant.kept c.entries.i (omega arith) in
    entry_done_more _ _ _ _ _ (omega arith) c.entries.invariant (rw kept at c.combined.ensures)
