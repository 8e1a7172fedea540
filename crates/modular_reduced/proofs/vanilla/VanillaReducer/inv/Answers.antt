use Rattle.modular_reduced.specs.Plain.{plain_canonical}
use Rattle.modular_reduced.proofs.FormLemmas.{inverse_answered, plain_inverse}
use Rattle.modular_reduced.proofs.vanilla.VanillaReducer.inv.Goals as goal

pub returns : goal.returns
returns g c =
    let s = c.args.self.now in
    let n = g.T.RingWord.number in
    inverse_answered n (n c.args.f) c.fast_inverse.result (plain_canonical g.T.RingWord.width (n s.modulus) s.positive
    s.fits)
    (plain_inverse n (n s.modulus) (n c.args.f) c.fast_inverse.result c.fast_inverse.ensures)
