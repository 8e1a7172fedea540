use Rattle.std.proofs.Common.{arith}
use Rattle.mersenne_hash.proofs.Parts.{part_is, residue_of_entry}
use Rattle.mersenne_hash.proofs.prefixes.PrefixHashes.substring_hash.Goals as goal

pub returns : goal.returns
returns c = grind (arith, residue_of_entry, part_is) steps 700000
