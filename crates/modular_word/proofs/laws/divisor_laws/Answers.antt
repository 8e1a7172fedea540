-- The laws of common divisors, from the lemmas on them.
use Rattle.modular_word.proofs.Divisors.{gcd_is, gcd-from_Coprime, Coprime-from_gcd, Coprime-mod, Coprime-from_mod}
use Rattle.modular_word.proofs.laws.divisor_laws.Goals as goal

pub returns : goal.returns
returns c = record {
  greatest = λ a n h. gcd_is a n h;
  coprime = λ a n h. (gcd-from_Coprime a n h, Coprime-from_gcd a n h);
  residue = λ a n. (Coprime-from_mod a n, Coprime-mod a n);
}
