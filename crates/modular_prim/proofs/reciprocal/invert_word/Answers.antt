use Rattle.std.proofs.Common.{◌≡◌, ◌+◌, ◌*◌, ◌/◌, ◌%◌, ◌^◌, sym, ap, ◌∙◌}
use Rattle.modular_prim.proofs.ReciprocalOf.{greatest_is, reciprocal_of, reciprocal_of_less}
use Rattle.modular_prim.proofs.reciprocal.invert_word.Goals as goal
use Rattle.modular_prim.proofs.reciprocal.invert_word.Goals.{then-bits-lt64, else-bits-lt64}

pub returns : goal.returns
returns g c =
    let n = g.T.RingWord.number in
    let B = g.T.PathWord.base in
    let x = n c.ones-greatest.result in
    let v = n c.low_quotient.result in
    let top : x + 1 ≡ B = c.ones-greatest.ensures ∙ ap (λ k. 2 ^ k) c.bits.ensures ∙ sym g.met.T.PathWord.base_is in
    let divided : (h : _) → n c.if-bits-lt64.high ≡ h → v ≡ ((x + B * h) / (n c.args.d)) % B =
    λ h e.
    c.low_quotient.ensures.value ∙ ap (λ a. (a / (n c.args.d)) % B) (c.merge.ensures.value ∙ ap (λ y. x + B * y) e) in
    elim c.if-bits-lt64.branch [
      | then-bits-lt64 w ↦
          reciprocal_of _ _ _ (x + B * x) c.low_quotient.ensures.fits c.requires (greatest_is _ _ top)
          (divided x (ap n w.high-is))
      | else-bits-lt64 w ↦
          reciprocal_of_less _ _ _ _ _ c.low_quotient.ensures.fits c.requires top
          w.wrapping_sub-high.ensures.fits w.wrapping_sub-high.ensures.value (divided _ (ap n w.high-is))
    ]
