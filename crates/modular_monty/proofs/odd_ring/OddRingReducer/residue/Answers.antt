use Rattle.modular_reduced.proofs.FormLemmas.{value_answered}
use Rattle.modular_monty.specs.MontgomeryLaws.{montgomery_canonical}
use Rattle.modular_monty.proofs.MontgomerySteps.{value_stands, form_below, extended_below}
use Rattle.modular_monty.proofs.odd_ring.OddRingReducer.residue.Goals as goal

pub redc_below-requires : goal.redc_below-requires
redc_below-requires g c =
    let r = g.met.M.OddModulus.is_odd_ring c.args.self.now.kept in
    let below = form_below r c.requires in
    rw (extended_below r below c.merge.ensures.value c.zero.ensures).0 below

pub returns : goal.returns
returns g c =
    let r = g.met.M.OddModulus.is_odd_ring c.args.self.now.kept in
    let below = form_below r c.requires in
    value_answered (montgomery_canonical r)
    (value_stands r below (extended_below r below c.merge.ensures.value c.zero.ensures).0 c.redc_below.ensures)
