use Rattle.std.proofs.Common.{ℕ, pos, ◌-ℤ◌, refl}
use Rattle.modular_word.specs.Residues.{residue}
use Rattle.modular_reduced.proofs.ListPairs.{pairs_taken}
use Rattle.modular_reduced.proofs.ListSteps.{list_answered}
use Rattle.modular_monty.specs.Montgomery.{montgomery_form, montgomery_value}
use Rattle.modular_monty.specs.MontgomeryLaws.{montgomery_canonical}
use Rattle.modular_monty.proofs.MontgomerySteps.{form_below, difference_made}
use Rattle.modular_monty.proofs.odd_ring.OddRingReducer.sub_entries.Goals as goal

pub sub_each-requires-clause-left : goal.sub_each-requires-clause-left
sub_each-requires-clause-left g c = λ i d l. rw c.modulus.ensures
    (form_below (g.met.M.OddModulus.is_odd_ring c.args.self.now.kept) (c.requires.checked_xs i d l))

pub sub_each-requires-clause-right : goal.sub_each-requires-clause-right
sub_each-requires-clause-right g c = λ i d l. rw c.modulus.ensures
    (form_below (g.met.M.OddModulus.is_odd_ring c.args.self.now.kept) (c.requires.checked_ys i d l))

pub returns : goal.returns
returns g c =
    let w = g.T.RingWord.width in let m = g.M.OddModulus.modulus c.args.self.now.kept in
    let r = g.met.M.OddModulus.is_odd_ring c.args.self.now.kept in
    let op : ℕ → ℕ → ℕ = λ v w. residue m (pos v -ℤ pos w) in
    list_answered _ (montgomery_canonical r)
    (pairs_taken g.T.RingWord.number (montgomery_form w) (montgomery_value w) m op op c.args.xs.now c.args.ys.now _
    (λ f h is_f is_h. (difference_made r is_f is_h refl).form) c.requires.checked_xs c.requires.checked_ys
    c.requires.equal
    c.sub_each.auto.xs (rw c.modulus.ensures at c.sub_each.ensures)) c.sub_each.auto.xs
