-- A halving and a swap.
use Rattle.std.proofs.Common.{◌*◌, ◌^◌, pos}
use Rattle.modular_symbols.specs.Jacobi.{jacobi}
use Rattle.modular_symbols.proofs.TurnedSymbols.{two_signs_compose}
use Rattle.modular_symbols.proofs.halving.is_turned.Goals as goal

pub returns : goal.returns
returns g c =
    let n = g.T.RingWord.number in
    two_signs_compose (jacobi (pos (n c.args.a * 2 ^ c.args.twos)) (n c.args.n))
    (jacobi (pos (n c.args.a)) (n c.args.n))
    (jacobi (pos (n c.args.n)) (n c.args.a)) _ _ (c.is_turned_by_twos.ensures (n c.args.a)) c.is_turned_by_swap.ensures
