use Rattle.std.proofs.Common.{◌≡◌, ℕ, ◌+◌, ◌*◌, ◌%◌, arith, ◌<◌, pos, ◌-ℤ◌, sym, ◌∙◌}
use Rattle.std.proofs.Math.Nat.{mod-mod}
use Rattle.num_modular.specs.NumberLaws.{difference_and}
use Rattle.num_modular.specs.Residues.{residue}
use Rattle.check_digits.proofs.CheckSums.{changed_symbol, others_sum}
use Rattle.check_digits.proofs.Code.solve.Goals as goal

-- the sum with another symbol, by the sum less a term
moved_sum : (m others sum product w x s S S' : ℕ) → 0 < m → others ≡ residue m (pos sum -ℤ pos product)
    → product ≡ (w * x) % m → sum ≡ S % m → S' + w * x ≡ S + w * s → S' % m ≡ (others + w * s) % m
moved_sum m others sum product w x s S S' positive is is_product is_sum moved =
    let less = difference_and m sum product positive in others_sum m S S' w x s others moved (grind (arith, mod-mod))

pub returns-clause-leaves : goal.returns-clause-leaves
returns-clause-leaves c =
    moved_sum _ _ _ _ _ _ _ _ _ c.args.self.now.positive c.subm-others.ensures c.mulm.ensures c.sum.ensures
    (changed_symbol c.args.self.now.weights.now c.args.word.now c.args.place c.complete.result c.requires.within)
    ∙ c.complete.ensures.leaves

pub returns-clause-only : goal.returns-clause-only
returns-clause-only c t below leaves =
    c.complete.ensures.only t below (sym (moved_sum _ _ _ _ _ _ _ _ _ c.args.self.now.positive c.subm-others.ensures
    c.mulm.ensures c.sum.ensures
    (changed_symbol c.args.self.now.weights.now c.args.word.now c.args.place t c.requires.within)) ∙ leaves)
