use Rattle.ring_codes.proofs.Names.{◌∙◌, ℕ, refl, length, entry, mod_refl, residue_of, mod_trans, mod_mul}
use Rattle.ring_codes.proofs.Congruences.{mod_of_residue}
use Rattle.ring_codes.proofs.Lagrange.{rows_from}
use Rattle.ring_codes.proofs.erasure.prepared.PreparedCode.new.Goals as goal

pub invariant_of-result : goal.invariant_of-result
invariant_of-result g c =
    let ring = g.R.Reducer in let m = ring.modulus c.args.ring.now in let number = g.T.RingWord.number in
    let positive = (g.met.R.Reducer.canonical c.args.ring.now).positive in
    let known = c.args.known.now in let wanted = c.args.wanted.now in
    let x = entry number ring.value m known in let y = entry number ring.value m wanted in
    let w = entry number ring.value m c.fill_barycentric_weights.new.weights in
    let k : ℕ = length known in
    let fit = c.if-not-fill_barycentric_weights.ensures.fit.0 refl in
    record {
      known_forms = c.requires.known;
      wanted_forms = c.requires.wanted;
      row_forms = c.fill_rows.ensures.checked;
      fit = ∣ fit ∣₁;
      count = c.fill_rows.auto.rows ∙ c.requires.count;
      factors = rows_from m k (length wanted) x y w (entry number ring.value m c.fill_rows.new.rows) positive fit
          (c.if-not-fill_barycentric_weights.ensures.inverses refl)
          (λ j i l b. mod_trans (mod_of_residue (c.fill_rows.ensures.values j i l b))
          (mod_mul (residue_of _) (mod_refl (w i))));
    }
