use Rattle.num_modular.specs.Callers.{◌≡◌, ◌+◌, ◌*◌, ◌%◌, ◌∙◌, ap, arith}
use Rattle.std.proofs.Common.{add-one}
use Rattle.num_modular.specs.Callers.{entry, entry_at, forms_written, done_none, done_more}
use Rattle.num_modular.specs.NumberLaws.{mod_add, mod_mul, mod_refl, mod_trans}
use Rattle.ring_codes.proofs.Congruences.{mod_of_residue}
use Rattle.ring_erasures.proofs.derivative.differentiate.Goals as goal

pub coefficients-init : goal.coefficients-init
coefficients-init g c =
    let same = c.transform-index.ensures.value ∙ ap (λ v. v % g.R.Reducer.modulus c.args.r.now) c.zero.ensures in
    (c.requires.coefficients, record { checked = c.transform-index.ensures.checked; same = same }, done_none _ _)

pub coefficients-preserved : goal.coefficients-preserved
coefficients-preserved g c =
    let ring = g.R.Reducer in let m = ring.modulus c.args.r.now in let number = g.T.RingWord.number in
    let list = c.coefficients.coefficients in let i = c.coefficients.i in let so_far = c.coefficients.invariant in
    let old = entry number ring.value m c.args.coefficients.now in
    let sum = mod_add (mod_of_residue so_far.1.same)
    (mod_of_residue (c.transform-one.ensures.value ∙ ap (λ v. v % m) c.one.ensures)) in
    let read = entry_at number ring.value m list (i + 1) c.index-coefficients-i.result (omega arith)
    ∙ so_far.2.kept (i + 1) (omega arith) in
    let is : ring.value m (number c.mul.result) ≡ ((i + 1) * old (i + 1)) % m =
    c.mul.ensures.value ∙ ap (λ v. (ring.value m (number c.add-index.result) * v) % m) read
    ∙ (mod_mul (mod_trans (mod_of_residue c.add-index.ensures.value) sum) (mod_refl _)).same in (
      forms_written number ring.form ring.value m list i c.mul.result c.mul.ensures.checked so_far.0,
      record { checked = c.add-index.ensures.checked; same = c.add-index.ensures.value ∙ sum.same },
      done_more number ring.value m list i c.mul.result _ old (omega arith) so_far.2 (rw add-one at is),
    )
