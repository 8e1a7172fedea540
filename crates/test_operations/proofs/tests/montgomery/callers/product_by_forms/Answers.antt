use Rattle.std.proofs.Common.{◌*◌, ◌%◌, ap₂, sym, ◌∙◌}
use Rattle.std.proofs.lemmas.Nat.{mul-mod}
use Rattle.test_operations.proofs.tests.montgomery.callers.product_by_forms.Goals as goal

pub returns : goal.returns
returns g c =
    let n = g.T.RingWord.number in
    let m = g.R.Reducer.modulus c.args.ring.now in
    c.residue.ensures.value ∙ c.mul.ensures.value
    ∙ ap₂ (λ x y. (x * y) % m) c.transform.ensures.value c.transform-2.ensures.value
    ∙ sym (mul-mod (n c.args.a) (n c.args.b) m)
