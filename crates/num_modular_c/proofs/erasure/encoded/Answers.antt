use Rattle.std.proofs.Common.{◌∙◌, sym}
use Rattle.num_modular_c.proofs.erasure.encoded.Goals as goal

pub evaluate_each-requires-clause-room : goal.evaluate_each-requires-clause-room
evaluate_each-requires-clause-room g c =
    c.requires.word ∙ sym (c.load_from.auto.forms ∙ c.split_at_mut-xs.ensures.front_len)
