use Rattle.num_modular.specs.Callers.{◌∙◌, sym, subst, ap, inl, inr, arith, HasInverse, entry, entry_read}
use Rattle.std.proofs.lemmas.Bool.{cases_eq}
use Rattle.ring_decoder.proofs.search.find_nonunit.Goals as goal

pub values-preserved : goal.values-preserved
values-preserved g c =
    let ring = g.R.Reducer in let m = ring.modulus c.args.r.now in let number = g.T.RingWord.number in
    let values = c.args.values.now in let i = c.values.i in let z = entry number ring.value m values in
    let at = entry_read number ring.value m values i _ c.values-test.true c.index-values-i.is in
    let so_far = c.values.invariant in let joined = c.joined-product.ensures in (
      joined.checked,
      joined.nonzero,
      λ unit.
          let both = joined.units unit in let before = so_far.2 both.0 in (
            before.0,
            λ k l other. elim (cases_eq k i) [
              | inl e ↦
                  let there = at ∙ ap z (sym e) in
                  subst (HasInverse m) there (both.1 (λ none. other (sym there ∙ none)))
              | inr o ↦ before.1 k (omega arith) other
            ],
          ),
    )
