-- An inverse modulo 21.
use Rattle.std.proofs.Common.{refl, lit<}
use Rattle.modular_word.specs.Inverses.{IsInverse}

pub inverse_of_five_is_seventeen : IsInverse 21 5 17
inverse_of_five_is_seventeen = record { below = lit< tt; one = refl }
