use Rattle.num_modular.proofs.StopLemmas.{no_stop, first_stop, each_inverse}
use Rattle.num_modular.proofs.laws.stop_laws.Goals as goal

pub returns-clause-none : goal.returns-clause-none
returns-clause-none g c m start commands at all stop = no_stop g.T.RingWord.number m start commands at all stop

pub returns-clause-first : goal.returns-clause-first
returns-clause-first g c m start commands at r needs none before =
    first_stop g.T.RingWord.number m start commands at r needs none before

pub returns-clause-each : goal.returns-clause-each
returns-clause-each g c m start commands never i r needs =
    each_inverse g.T.RingWord.number m start commands never i r needs
