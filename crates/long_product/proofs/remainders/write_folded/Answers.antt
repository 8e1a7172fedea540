use Rattle.std.proofs.Common.{◌≡◌, ℕ, ◌+◌, ◌*◌, ◌%◌, ◌<◌, length, get_or, ap, sym, ◌∙◌, subst, arith}
use Rattle.long_product.specs.Residues.{HasResidues}
use Rattle.long_product.proofs.Bluestein.{stored_more}
use Rattle.long_product.proofs.remainders.write_folded.Goals as goal

pub places-preserved : goal.places-preserved
places-preserved c i x y l =
    let n = length c.args.out.now in
    let residues = λ (j k : ℕ). HasResidues c.args.count k (get_or c.args.firsts.now j 0)
    (get_or c.args.seconds.now j 0)
    (get_or c.args.thirds.now j 0) in
    let moved = λ (j k : ℕ) (has : residues j k). subst (λ p. HasResidues p k (get_or c.args.firsts.now j 0)
    (get_or c.args.seconds.now j 0) (get_or c.args.thirds.now j 0)) (sym c.modulo-remainders.ensures.count) has in
    stored_more (λ j v. (x y : ℕ) → residues j x → (0 < c.args.c → residues (j + n) y)
    → v ≡ (x + c.args.c * y) % c.args.m)
    c.places.out c.places.e c.folded_at.result (omega arith) (λ j k x y. c.places.invariant j x y k)
    (λ x y first second. c.folded_at.ensures x y (moved c.places.e x first) (λ some. moved (c.places.e + n) y
    (second some))
    ∙ ap (λ m. (x + c.args.c * y) % m) c.modulo-remainders.ensures.modulus)
    i l x y
