use Rattle.std.proofs.Common.{ℕ, ◌+◌, ◌*◌, ◌%◌, lit<, ◌∙◌, sym}
use Rattle.std.proofs.Math.Nat.{mod-mod}
use Rattle.modular_reduced.specs.Integers.{residue_of}
use Rattle.modular_folds.specs.Mersenne.{mersenne}
use Rattle.modular_word.proofs.Congruence.{mod_cancel}
use Rattle.modular_ring.proofs.Windows.{residue_moved, difference_rolled}
use Rattle.modular_ring.proofs.hashes.roll.Goals as goal

pub returns-clause-value : goal.returns-clause-value
returns-clause-value c =
    let m : ℕ = mersenne 61 1 in
    let s = residue_of c.args.window * residue_of c.args.base + c.args.next in
    let out = (residue_of c.args.power * c.args.first) % m in
    let laws = c.residue_laws.ensures in
    mod_cancel m (residue_of c.reduced_eighth.result) _ out c.reduced_eighth.result.checked.below
    (laws.residue m _ (lit< tt)).below
    (difference_rolled m (residue_of c.args.window) (residue_of c.args.base) (residue_of c.args.power)
    (residue_of c.neg.result)
    c.args.first c.args.next _ c.args.power.checked.below c.neg.ensures.residue (cc)
    ∙ sym (laws.difference m (s % m) out (lit< tt) ∙ mod-mod s m))

pub returns-clause-hash : goal.returns-clause-hash
returns-clause-hash c old new same window_is power_is =
    residue_moved (mersenne 61 1) (residue_of c.args.base) c.args.first c.args.next old new (residue_of c.args.window)
    (residue_of c.args.power) _ same window_is power_is
    (difference_rolled _ (residue_of c.args.window) (residue_of c.args.base) (residue_of c.args.power)
    (residue_of c.neg.result)
    c.args.first c.args.next _ c.args.power.checked.below c.neg.ensures.residue (cc))
    c.reduced_eighth.result.checked.below
