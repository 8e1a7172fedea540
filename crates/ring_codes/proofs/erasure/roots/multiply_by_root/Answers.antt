use Rattle.ring_codes.proofs.Names.{◌*◌, ◌%◌, ◌∙◌, zero-mod, ap, sym, arith, entry, entry_read, form_read}
use Rattle.ring_codes.proofs.Names.{forms_written, done_none, done_more, mod_of_eq, mod_trans}
use Rattle.ring_codes.proofs.Shifts.{shifted_none, shifted_next}
use Rattle.ring_codes.proofs.NewtonForms.{difference_plus_multiple_congruent}
use Rattle.ring_codes.proofs.erasure.roots.multiply_by_root.Goals as goal

pub coefficients-init : goal.coefficients-init
coefficients-init g c =
    let m = g.R.Reducer.modulus c.args.r.now in (
      c.requires.coefficients,
      record {
        checked = c.transform-before.ensures.checked;
        same = c.transform-before.ensures.value ∙ rw (c.zero.ensures, zero-mod m) (sym (shifted_none _));
      },
      done_none _ _,
    )

pub coefficients-preserved : goal.coefficients-preserved
coefficients-preserved g c =
    let ring = g.R.Reducer in let m = ring.modulus c.args.r.now in let number = g.T.RingWord.number in
    let positive = (g.met.R.Reducer.canonical c.args.r.now).positive in
    let list = c.coefficients.coefficients in let i = c.coefficients.i in let so_far = c.coefficients.invariant in
    let old = entry number ring.value m c.args.coefficients.now in
    let a = ring.value m (number c.args.point.now) in
    let here = entry_read number ring.value m list i _ (omega arith) c.index-coefficients-i.is
    ∙ so_far.2.kept i (omega arith) in
    let one = mod_trans (difference_plus_multiple_congruent m a (ring.value m (number c.mul-product.result)) _
    (ring.value m (number c.coefficients.before)) (old i) positive
    (c.mul-product.ensures.value ∙ ap (λ v. (a * v) % m) here) c.sub.ensures.value) (mod_of_eq so_far.1.same) in (
      forms_written number ring.form ring.value m list i c.sub.result c.sub.ensures.checked so_far.0,
      record {
        checked = form_read number ring.form ring.value m list i _ so_far.0 (omega arith) c.index-coefficients-i.is;
        same = here ∙ sym (shifted_next old i);
      },
      done_more number ring.value m list i c.sub.result _ old (omega arith) so_far.2 one,
    )
