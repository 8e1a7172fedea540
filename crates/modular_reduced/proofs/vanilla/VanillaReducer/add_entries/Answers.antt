use Rattle.std.proofs.Common.{ℕ, ◌+◌, ◌%◌, refl}
use Rattle.std.proofs.Math.Nat.{mod-lt}
use Rattle.modular_reduced.specs.Plain.{plain_form, plain_value, plain_canonical}
use Rattle.modular_reduced.proofs.ListPairs.{pairs_taken}
use Rattle.modular_reduced.proofs.ListSteps.{list_answered}
use Rattle.modular_reduced.proofs.vanilla.VanillaReducer.add_entries.Goals as goal

pub returns : goal.returns
returns g c =
    let s = c.args.self.now in let m = g.T.RingWord.number s.modulus in let op : ℕ → ℕ → ℕ = λ v w. (v + w) % m in
    list_answered _ (plain_canonical g.T.RingWord.width m s.positive s.fits)
    (pairs_taken g.T.RingWord.number plain_form plain_value m op op c.args.xs.now c.args.ys.now _
    (λ v w _ _. record { below = mod-lt _ s.positive; same = refl })
    c.requires.checked_xs c.requires.checked_ys c.requires.equal c.add_each.auto.xs c.add_each.ensures)
    c.add_each.auto.xs
