-- What the loop that halves and swaps keeps.
use Rattle.std.proofs.Common.{◌≡◌, ℕ, ◌*◌, ◌%◌, ◌^◌, Bool, ℤ, pos, arith}
use Rattle.std.proofs.Math.Bool.{beq, not}
use Rattle.modular_symbols.specs.Jacobi.{jacobi}
use Rattle.modular_symbols.specs.Kronecker.{signed}
use Rattle.modular_symbols.proofs.JacobiLaws.{jacobi-residue}
use Rattle.modular_symbols.proofs.TurnedSymbols.{Keeps, kept_turned}
use Rattle.modular_symbols.proofs.TwoPart.{Halved}

pub kept_swapped : (w : ℤ) (x y s a r : ℕ) (t u : Bool) → Keeps w x y t → Halved x s a
    → jacobi (pos (a * 2 ^ s)) y ≡ signed u (jacobi (pos y) a) → r ≡ y % a → Keeps w r a (not (beq t u))
kept_swapped w x y s a r t u k h e f = search (arith, kept_turned, jacobi-residue)
