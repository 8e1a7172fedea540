-- The laws of inverses, from the lemmas on divisors and on inverses.
use Rattle.modular_word.proofs.Divisors.{HasInverse-gcd, HasInverse-from_Coprime, Coprime-from_IsInverse}
use Rattle.modular_word.proofs.InverseLemmas.{inverse_unique, inverse_of-found, inverse_of-is, inverse_from_mod}
use Rattle.modular_word.proofs.InverseLemmas.{inverse_mod, HasInverse-from_mod, HasInverse-mod}
use Rattle.modular_word.proofs.laws.inverse_laws.Goals as goal

pub returns : goal.returns
returns c = record {
  exists = λ m a p. HasInverse-gcd a m p;
  coprime = λ m a p. ((λ h. Coprime-from_IsInverse a m h.0 h.1), HasInverse-from_Coprime a m p);
  unique = λ m a x y p q. inverse_unique m a x y p q;
  named = λ m a. inverse_of-is m a;
  found = λ m a x p. inverse_of-found m a x p;
  residue = λ m a x. (inverse_from_mod m a x, inverse_mod m a x);
  has_residue = λ m a. (HasInverse-from_mod m a, HasInverse-mod m a);
}
