use Rattle.std.proofs.lemmas.Bool.{false≢true}
use Rattle.num_modular.specs.Callers.{◌+◌, ◌-◌, ◌∙◌, ℕ, sym, arith, mod-eq_of_lt}
use Rattle.num_modular.specs.NumberLaws.{mod_sym}
use Rattle.ring_codes.proofs.Congruences.{mod_of_residue}
use Rattle.ring_decoder.proofs.LocatorSteps.{search_kept, search_corrected, search_longer, search_none}
use Rattle.ring_decoder.proofs.LocatorSums.{none_of}
use Rattle.ring_decoder.proofs.locator.advance.Goals as goal

pub returns-then-from-degree-clause-advanced : goal.returns-then-from-degree-clause-advanced
returns-then-from-degree-clause-advanced g c =
    let found = c.requires.search in let h : ℕ = c.args.i - c.args.degree in let before = c.if-from-degree.true in
    search_corrected found h c.requires.inside (omega (arith, found.within)) (c.args.degree - 1 - h)
    (omega (arith, before, found.within)) (mod_sym (mod_of_residue c.apply-discrepancy.ensures.value))
    c.combine.ensures.combined c.combine.ensures.kept

pub returns-then-is_zero-clause-advanced : goal.returns-then-is_zero-clause-advanced
returns-then-is_zero-clause-advanced g c =
    let found = c.requires.search in
    search_kept found (c.args.i - c.args.degree) c.requires.inside (omega (arith, found.within)) c.if-from-degree.false
    (none_of _ _ (sym c.apply-discrepancy.ensures.value ∙ c.is_zero.ensures.0 c.if-is_zero.true))

pub returns-then-from-moments-clause-advanced : goal.returns-then-from-moments-clause-advanced
returns-then-from-moments-clause-advanced g c =
    let positive = (g.met.R.Reducer.canonical c.args.r.now).positive in let found = c.requires.search in
    search_none found (c.args.i - c.args.degree) c.requires.inside (omega (arith, found.within)) positive
    (omega (arith, c.if-from-moments.true))
    (λ e. false≢true (sym c.if-is_zero.false ∙ c.is_zero.ensures.1 (c.apply-discrepancy.ensures.value ∙ e)))

pub extend_witness-next-requires-clause-some : goal.extend_witness-next-requires-clause-some
extend_witness-next-requires-clause-some g c none = false≢true (sym c.if-is_zero.false ∙ c.is_zero.ensures.1 none)

pub returns-clause-advanced : goal.returns-clause-advanced
returns-clause-advanced g c =
    let positive = (g.met.R.Reducer.canonical c.args.r.now).positive in let found = c.requires.search in
    let h : ℕ = c.args.i - c.args.degree in let half = c.if-from-degree.false in
    let d = c.apply-discrepancy.ensures in let next = c.extend_witness-next.ensures in
    search_longer found h c.requires.inside (omega (arith, found.within)) (h + 1 - c.args.degree) (omega (arith, half))
    half
    (mod_sym (mod_of_residue d.value))
    (λ e. false≢true (sym c.if-is_zero.false ∙ c.is_zero.ensures.1 (sym (mod-eq_of_lt d.checked.below) ∙ e)))
    c.combine-2.ensures.combined positive (omega (arith, c.if-from-moments.false)) c.combine-2.ensures.kept next.units
    next.nonzero
