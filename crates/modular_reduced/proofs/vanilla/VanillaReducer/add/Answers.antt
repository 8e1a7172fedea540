use Rattle.std.proofs.Math.Nat.{mod-lt}
use Rattle.modular_reduced.specs.Plain.{plain_canonical}
use Rattle.modular_reduced.proofs.FormLemmas.{answered_by_form}
use Rattle.modular_reduced.proofs.vanilla.VanillaReducer.add.Goals as goal

pub returns : goal.returns
returns g c =
    let s = c.args.self.now in
    answered_by_form (plain_canonical g.T.RingWord.width (g.T.RingWord.number s.modulus) s.positive s.fits)
    (record { below = mod-lt _ s.positive; same = c.add_below.ensures.value })
