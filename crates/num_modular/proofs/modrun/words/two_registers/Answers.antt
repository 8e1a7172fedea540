use Rattle.num_modular.proofs.CommandTexts.{last_text, read_more}
use Rattle.num_modular.proofs.modrun.words.two_registers.Goals as goal

pub returns : goal.returns
returns c = (
  c.in_ok-dst.ensures.0,
  c.in_ok-register.ensures.0,
  read_more _ _ _ _ c.in_ok-dst.ensures.1 (last_text _ _ c.in_ok-register.ensures.1),
)
