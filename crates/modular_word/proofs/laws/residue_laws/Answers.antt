-- The laws of residues, from the lemmas on them.
use Rattle.modular_word.proofs.ResidueLemmas.{residue_is, residue_unique, difference_and}
use Rattle.modular_word.proofs.laws.residue_laws.Goals as goal

pub returns : goal.returns
returns c = record {
  residue = λ m z h. residue_is m z h;
  unique = λ m z v h r. residue_unique m z _ _ r (residue_is m z h);
  difference = λ m a b h. difference_and m a b h;
}
