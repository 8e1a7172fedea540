-- The law of reciprocity, where the numbers change places.
use Rattle.std.proofs.Common.{◌/◌, if◌then◌else◌, pos, sym, ap, ◌∙◌}
use Rattle.std.specs.Int.Bits.{bit_and}
use Rattle.modular_symbols.specs.Jacobi.{jacobi}
use Rattle.modular_symbols.specs.Kronecker.{signed}
use Rattle.modular_symbols.proofs.TurnBits.{is_odd, odd-both}
use Rattle.modular_symbols.proofs.TurnedSymbols.{jacobi_swapped_by}
use Rattle.modular_symbols.proofs.turns.turn_by_swap.Goals as goal

pub returns-then-swap : goal.returns-then-swap
returns-then-swap g c =
    let n = g.T.RingWord.number in
    jacobi_swapped_by _ _ _ c.requires.a_odd c.requires.n_odd
    (odd-both _ _ _ _ c.requires.a_odd c.requires.n_odd
    c.low_part.ensures c.low_part-then-swap.ensures)
    ∙ sym (ap (λ v. signed (is_odd (bit_and c.low_part.result c.low_part-then-swap.result / 2))
    (if v then jacobi (pos (n c.args.n)) (n c.args.a)
    else jacobi (pos (n c.args.a)) (n c.args.n))) c.if-swap.true)
