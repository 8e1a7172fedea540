use Rattle.std.proofs.Common.{◌∙◌, arith}
use Rattle.std.proofs.lemmas.Grind.{get_or_default_zero}
use Rattle.std.proofs.lemmas.List.{get_or-map}
use Rattle.num_modular_c.proofs.InPlace.{entry_done_more}
use Rattle.num_modular_c.proofs.lists.load.Goals as goal

pub entries-preserved : goal.entries-preserved
entries-preserved g c =
    let kept = c.entries.invariant.kept c.entries.i (omega arith) in
    entry_done_more _ _ _ _ _ (omega arith) c.entries.invariant
    (record { checked = c.transform.ensures.checked; same = rw kept at c.transform.ensures.value })

pub returns-clause-checked : goal.returns-clause-checked
returns-clause-checked g c =
    λ k d l. rw (get_or_default_zero c.entries.xs k d l) (c.entries.invariant.done k (omega arith)).checked

pub returns-clause-values : goal.returns-clause-values
returns-clause-values g c =
    λ i l. get_or-map (λ f. g.R.Reducer.value (g.R.Reducer.modulus c.args.r.now) f) c.entries.xs i 0 0 (omega arith)
    ∙ (c.entries.invariant.done i (omega arith)).same
