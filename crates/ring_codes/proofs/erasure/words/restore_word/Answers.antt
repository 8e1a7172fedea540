use Rattle.ring_codes.proofs.Names.{slice_index, mod-mod, arith, mod_refl, polynomial-congruent}
use Rattle.ring_codes.proofs.erasure.words.restore_word.Goals as goal

pub returns-in-Ok-clause-encoding : goal.returns-in-Ok-clause-encoding
returns-in-Ok-clause-encoding g c t = grind arith

pub returns-in-Ok-clause-symbols : goal.returns-in-Ok-clause-symbols
returns-in-Ok-clause-symbols g c t i l = grind (arith, returns-in-Ok-clause-encoding, slice_index)

pub returns-in-Ok-clause-original : goal.returns-in-Ok-clause-original
returns-in-Ok-clause-original g c t original is read i l =
    grind (arith, polynomial-congruent, mod-mod, mod_refl, returns-in-Ok-clause-encoding)
