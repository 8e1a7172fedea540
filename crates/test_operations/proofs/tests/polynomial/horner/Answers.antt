use Rattle.std.proofs.Common.{◌≡◌, ◌≤◌, ◌%◌, ◌-◌, ℕ, sym, ◌∙◌, ap, refl, arith, length, slice_index}
use Rattle.std.proofs.lemmas.List.Elements.{All-get_or}
use Rattle.std.proofs.Math.Nat.{zero-mod}
use Rattle.modular_word.proofs.ResidueLemmas.{residue_sub}
use Rattle.modular_word.specs.Sums.{polynomial_highest_first}
use Rattle.modular_word.proofs.Polynomials.{empty_polynomial_is_zero, polynomial_residue_of_appended}
use Rattle.test_operations.proofs.PolynomialLemmas.{mapped_more}
use Rattle.test_operations.proofs.tests.polynomial.horner.Goals as goal

pub terms-init : goal.terms-init
terms-init g c =
    let laws = g.met.I.ModularInteger in
    let ring = g.I.ModularInteger in
    let m : ℕ = ring.modulus_number c.args.x in
    let v : ℕ = ring.residue_number c.args.x in
    let zero_is = laws.subtracts c.args.x c.args.x c.sub-value.result refl c.sub-value.ensures in
    let itself : v ≤ v = omega arith in
    let nothing : v - v ≡ 0 = omega arith in
    record {
      modulus = zero_is.modulus;
      residue = zero_is.residue ∙ residue_sub m v v (laws.below c.args.x) itself ∙ nothing ∙ sym (zero-mod m)
          ∙ ap (λ k. k % m) (sym (empty_polynomial_is_zero v));
    }

pub terms-preserved : goal.terms-preserved
terms-preserved g c =
    let laws = g.met.I.ModularInteger in
    let ring = g.I.ModularInteger in
    let so_far = c.terms.invariant in
    let x = c.args.x in
    let item = c.c-item.result in
    let m : ℕ = ring.modulus_number x in
    let product_is = laws.multiplies c.terms.value x c.mul.result so_far.modulus c.mul.ensures in
    let product_modulus : ring.modulus_number c.mul.result ≡ m = product_is.modulus ∙ so_far.modulus in
    let in_ring : ring.modulus_number item ≡ m =
    ap ring.modulus_number c.c-item.is ∙ All-get_or (λ i. ring.modulus_number i ≡ m) c.args.coefficients.now
    c.terms.c-index item c.terms-test.true c.requires in
    let sum_is = laws.adds c.mul.result item c.add-value.result (product_modulus ∙ sym in_ring) c.add-value.ensures in
    let product_residue = rw so_far.modulus at product_is.residue in
    let sum_residue = rw product_modulus at sum_is.residue in
    record {
      modulus = sum_is.modulus ∙ product_modulus;
      residue = sum_residue
          ∙ polynomial_residue_of_appended m _ (ring.residue_number item) (ring.residue_number x) _ _ so_far.residue
          product_residue
          ∙ ap (λ cs. polynomial_highest_first (length cs) (slice_index cs) (ring.residue_number x) % m) (sym
          (mapped_more ring.residue_number c.args.coefficients.now c.terms.c-index item c.terms-test.true c.c-item.is));
    }
