use Rattle.num_modular.specs.Callers.{◌*◌, ◌%◌, ◌∙◌, ap, arith, entry, entry_at, entry_read, forms_written, done_more}
use Rattle.num_modular.specs.NumberLaws.{mod_of_eq, mod_trans, residue_of}
use Rattle.ring_codes.proofs.NewtonForms.{difference_plus_multiple_congruent}
use Rattle.ring_correction.proofs.key_equation.eliminate.Goals as goal

pub coefficients-preserved : goal.coefficients-preserved
coefficients-preserved g c =
    let ring = g.R.Reducer in let m = ring.modulus c.args.r.now in let number = g.T.RingWord.number in
    let positive = (g.met.R.Reducer.canonical c.args.r.now).positive in
    let list = c.coefficients.coefficients in let i = c.coefficients.i in let so_far = c.coefficients.invariant in
    let old = entry number ring.value m c.args.coefficients.now in
    let pivots = entry number ring.value m c.args.pivots.now in let a = ring.value m (number c.args.a.now) in
    let b = ring.value m (number c.args.b.now) in
    let pivot = entry_read number ring.value m c.args.pivots.now i _ (omega (arith, c.requires.equal))
    c.index-pivots-i.is in
    let here = entry_at number ring.value m list i c.index-coefficients-i.result (omega arith)
    ∙ so_far.1.kept i (omega arith) in
    let own = c.mul-own.ensures.value ∙ ap (λ v. (a * v) % m) here in
    let one = mod_trans (difference_plus_multiple_congruent m b (ring.value m (number c.mul-product.result)) _
    (ring.value m (number c.mul-own.result)) (pivots i) positive
    (c.mul-product.ensures.value ∙ ap (λ v. (b * v) % m) pivot) c.sub.ensures.value)
    (mod_trans (mod_of_eq own) (residue_of (a * old i))) in (
      forms_written number ring.form ring.value m list i c.sub.result c.sub.ensures.checked so_far.0,
      done_more number ring.value m list i c.sub.result _ old (omega arith) so_far.1 one,
    )
