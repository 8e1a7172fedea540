use Rattle.std.proofs.Common.{ℕ, pos, ◌-ℤ◌, refl}
use Rattle.modular_word.specs.Residues.{residue}
use Rattle.modular_word.proofs.ResidueLemmas.{residue_is}
use Rattle.modular_reduced.specs.Plain.{plain_form, plain_value, plain_canonical}
use Rattle.modular_reduced.proofs.ListPairs.{pairs_taken}
use Rattle.modular_reduced.proofs.ListSteps.{list_answered}
use Rattle.modular_reduced.proofs.vanilla.VanillaReducer.sub_entries.Goals as goal

pub returns : goal.returns
returns g c =
    let s = c.args.self.now in let m = g.T.RingWord.number s.modulus in let op : ℕ → ℕ → ℕ =
    λ v w. residue m (pos v -ℤ pos w) in
    list_answered _ (plain_canonical g.T.RingWord.width m s.positive s.fits)
    (pairs_taken g.T.RingWord.number plain_form plain_value m op op c.args.xs.now c.args.ys.now _
    (λ v w _ _. record { below = (residue_is m _ s.positive).below; same = refl })
    c.requires.checked_xs c.requires.checked_ys c.requires.equal c.sub_each.auto.xs c.sub_each.ensures)
    c.sub_each.auto.xs
