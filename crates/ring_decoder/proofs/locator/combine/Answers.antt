use Rattle.num_modular.specs.Callers.{◌≡◌, ◌-◌, ◌*◌, ◌%◌, ◌∙◌, ap, arith}
use Rattle.num_modular.specs.Callers.{entry_at, entry_read, forms_written, done_more}
use Rattle.num_modular.specs.NumberLaws.{mod_trans}
use Rattle.ring_codes.proofs.Congruences.{mod_of_residue}
use Rattle.ring_codes.proofs.NewtonForms.{difference_plus_multiple_congruent}
use Rattle.ring_decoder.proofs.locator.combine.Goals as goal

pub low-preserved : goal.low-preserved
low-preserved g c =
    let ring = g.R.Reducer in let m = ring.modulus c.args.r.now in let number = g.T.RingWord.number in
    let list = c.low.polynomial in let i = c.low.i in let so_far = c.low.invariant in
    let here = entry_at number ring.value m list i c.index-polynomial-i.result (omega arith)
    ∙ so_far.1.kept i (omega arith) in
    let own = c.mul-scaled.ensures.value ∙ ap (λ v. (ring.value m (number c.args.a.now) * v) % m) here in (
      forms_written number ring.form ring.value m list i c.mul-scaled.result c.mul-scaled.ensures.checked so_far.0,
      done_more number ring.value m list i c.mul-scaled.result _ _ (omega arith) so_far.1
          (record { low = λ before. mod_of_residue own; high = λ l e. absurd (omega (arith, e)) }),
    )

pub high-preserved : goal.high-preserved
high-preserved g c =
    let ring = g.R.Reducer in let m = ring.modulus c.args.r.now in let number = g.T.RingWord.number in
    let positive = (g.met.R.Reducer.canonical c.args.r.now).positive in
    let list = c.high.polynomial in let k = c.high.k in let so_far = c.high.invariant in
    let b = ring.value m (number c.args.b.now) in
    let there = entry_read number ring.value m c.args.other.now (k - c.args.q) _
    (omega (arith, c.requires.other_within)) c.index-other-place.is in
    let here = entry_at number ring.value m list k c.index-polynomial-k.result (omega arith)
    ∙ so_far.1.kept k (omega arith) in
    let own = c.mul-own.ensures.value ∙ ap (λ v. (ring.value m (number c.args.a.now) * v) % m) here in
    let one = mod_trans (difference_plus_multiple_congruent m b _ _ _ _ positive (c.mul-product.ensures.value
    ∙ ap (λ v. (b * v) % m) there)
    c.sub.ensures.value) (mod_of_residue own) in (
      forms_written number ring.form ring.value m list k c.sub.result c.sub.ensures.checked so_far.0,
      done_more number ring.value m list k c.sub.result _ _ (omega arith) so_far.1
          (record {
            low = λ before. absurd (omega (arith, before));
            high = λ l e. let place : k - c.args.q ≡ l = omega (arith, e) in rw place at one;
          }),
    )
