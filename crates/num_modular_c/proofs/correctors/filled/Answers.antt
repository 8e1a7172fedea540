use Rattle.std.proofs.Common.{◌∙◌}
use Rattle.num_modular_c.proofs.correctors.filled.Goals as goal

pub returns-clause-fit : goal.returns-clause-fit
returns-clause-fit g c =
    let long = c.load_from.auto.forms ∙ c.requires.forms in
    rw (← c.load_from.ensures.values) (rw long at c.fill_lists.ensures.fit)
