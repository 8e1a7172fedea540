-- Commands for C over whole numbers.
use Rattle.std.proofs.Common.{◌≡◌, List, [], ◌∷◌, map, ap₂, refl}
use Rattle.num_modular.specs.Ring.{whole}
use Rattle.num_modular.proofs.ProgramLemmas.{whole_same}
use Rattle.num_modular_c.specs.Commands.{ring_command_of}
use Rattle.num_modular_c.specs.declared.commands.NmCommand.{NmCommand}

-- commands over words of which each is its own number are the commands themselves
pub word_wholes_same : (commands : List NmCommand)
    → map (λ c. whole (λ x. x) (ring_command_of c)) commands ≡ map ring_command_of commands
word_wholes_same [] = refl
word_wholes_same (c ∷ cs) = ap₂ ◌∷◌ (whole_same (ring_command_of c)) (word_wholes_same cs)
