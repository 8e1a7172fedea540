use Rattle.std.proofs.Common.{◌∙◌, sym, arith}
use Rattle.std.proofs.lemmas.List.{get_or-map}
use Rattle.num_modular_c.proofs.InPlace.{entry_done_more}
use Rattle.num_modular_c.proofs.lists.unload.Goals as goal

pub residue-requires : goal.residue-requires
residue-requires g c =
    rw (c.entries.invariant.kept c.entries.i (omega arith)) (c.requires c.entries.i 0 (omega arith))

pub entries-preserved : goal.entries-preserved
entries-preserved g c =
    let kept = c.entries.invariant.kept c.entries.i (omega arith) in
    entry_done_more _ _ _ _ _ (omega arith) c.entries.invariant (rw kept at c.residue.ensures.value)

pub returns : goal.returns
returns g c =
    λ i l. c.entries.invariant.done i (omega arith)
    ∙ sym (get_or-map (λ f. g.R.Reducer.value (g.R.Reducer.modulus c.args.r.now) f) c.args.xs.now i 0 0 l)
