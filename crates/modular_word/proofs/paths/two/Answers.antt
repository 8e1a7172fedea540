use Rattle.std.proofs.Common.{arith}
use Rattle.modular_word.proofs.Lifting.{base_above_two}
use Rattle.modular_word.proofs.paths.two.Goals as goal

pub plus-requires : goal.plus-requires
plus-requires g c =
    let many = base_above_two _ _ g.met.T.PathWord.base_is g.met.T.RingWord.width_from in
    omega (arith, many, c.one.ensures, c.one-2.ensures)
