use Rattle.std.proofs.Common.{IsTrue, refl}
use Rattle.ring_decoder.proofs.corrector.Corrector.with_root.Goals as goal

pub returns : goal.returns
returns g c =
    let yes : IsTrue c.are_powers.result = search (c.if-not-are_powers.false) in
    let found = c.are_powers.ensures.0 yes in (refl, refl, refl, refl, refl, found.0, found.1)
