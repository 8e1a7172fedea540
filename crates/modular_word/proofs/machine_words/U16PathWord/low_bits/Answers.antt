-- The mask keeps the low bits.
use Rattle.modular_word.proofs.Shifts.{mask_keeps}
use Rattle.modular_word.proofs.machine_words.U16PathWord.low_bits.Goals as goal

pub returns-clause-value : goal.returns-clause-value
returns-clause-value c = mask_keeps 16 c.args.self c.args.count c.requires
