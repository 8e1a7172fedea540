-- A number has the symbol 1 exactly where it is a square.
use Rattle.modular_symbols.proofs.Squares.{root_from_symbol, symbol_of_root}
use Rattle.modular_symbols.proofs.laws.prime_laws.Goals as goal

pub returns-clause-square : goal.returns-clause-square
returns-clause-square c a p o u =
    ((λ e. let r = root_from_symbol a p o u e in (r.0, r.1.0, r.1.1)), (λ h. symbol_of_root a p h.0 o u h.1 h.2))
