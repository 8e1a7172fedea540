-- Division of a double word: the guess is right or off by one on either side, and the corrections meet it.
use Rattle.std.proofs.Common.{◌≡◌, ℕ, ◌+◌, ◌*◌, ◌%◌, ◌<◌, arith, sym, ap, ◌∙◌}
use Rattle.std.proofs.Math.Nat.{lt_of_mul-lt-mul_right}
use Rattle.modular_word.specs.Congruence.{Congruent}
use Rattle.modular_word.proofs.Congruence.{mod_of_eq, mod_refl, mod_sym, mod_trans, residue_of, mod_add, mod_mul}
use Rattle.modular_word.proofs.ReciprocalSteps.{Setting, Guess, guess_of, step_down, small_rest_guess_is_exact, step_up}
use Rattle.modular_word.proofs.paths.div_2by1.Goals as goal
use Rattle.modular_word.proofs.paths.div_2by1.Goals.{then-is_below, else-is_below, then-not-is_below, else-not-is_below}

-- the remainder for a quotient that is one more
less_is : (B d a0 q1 q r more : ℕ) → q ≡ (q1 + 1) % B → more ≡ (r + d) % B → (more + (q1 * d) % B) % B ≡ a0
    → (r + (q * d) % B) % B ≡ a0
less_is B d a0 q1 q r more eq er em =
    let next : Congruent B (q * d) ((q1 + 1) * d) = mod_mul (mod_trans (mod_of_eq eq) (residue_of _)) (mod_refl _) in
    let whole : Congruent B (r + (q * d) % B) (more + (q1 * d) % B) =
    mod_trans (mod_add (mod_refl _) (mod_trans (residue_of _) next))
    (mod_trans (mod_of_eq (omega arith))
    (mod_add (mod_sym (mod_trans (mod_of_eq er) (residue_of _))) (mod_sym (residue_of _)))) in
    whole.same ∙ em

pub returns : goal.returns
returns g c =
    let n = g.T.RingWord.number in
    let B = g.T.PathWord.base in
    let W = g.T.PathWord.double_number in
    let d = n c.args.d in
    let a0 = n c.split-low.result.0 in
    let a1 = n c.split-low.result.1 in
    let q1 = n c.split-q0.result.1 in
    let q = n c.wrapping_add-q.result in
    let r = n c.wrapping_sub-less.result in
    let more = n c.wrapping_sub-more.result in
    let ea : W c.args.a ≡ a0 + B * a1 = c.split-low.ensures.value in
    let high : a1 < d = lt_of_mul-lt-mul_right _ (let h : a1 * B < d * B = omega (arith, c.requires.high) in h) in
    let s : Setting B d (n c.args.reciprocal) a0 a1 (n c.split-q0.result.0) q1 = search arith in
    let eq : q ≡ (q1 + 1) % B = c.wrapping_add-q.ensures.value ∙ ap (λ x. (q1 + x) % B) c.one.ensures in
    let em : (more + (q1 * d) % B) % B ≡ a0 =
    ap (λ x. (more + x) % B) (sym c.wrapping_mul.ensures.value) ∙ c.wrapping_sub-more.ensures.value in
    let er : (r + (q * d) % B) % B ≡ a0 = less_is _ _ _ _ _ _ _ eq (sym c.wrapping_sub-less.ensures.value) em in
    let guess : Guess B d (a0 + B * a1) (n c.split-q0.result.0) q1 r =
    guess_of _ _ _ _ _ _ _ _ _ s c.wrapping_sub-less.ensures.fits eq er in
    -- the dividend after the first correction
    let corrected : W c.args.a ≡ n c.if-is_below.q * d + n c.if-is_below.r =
    elim c.if-is_below.branch [
      | then-is_below w ↦
          let down : a0 + B * a1 ≡ q1 * d + more =
          step_down _ _ (a0 + B * a1) _ _ _ _ _ more c.is_below-2.ensures.other_fits
          c.split-q0.ensures.high_fits c.wrapping_sub-less.ensures.fits c.split-q0.ensures.high_fits guess eq
          (sym eq) (sym c.wrapping_sub-less.ensures.value) (grind arith) in
          rw (w.q-is, w.r-is) (ea ∙ down)
      | else-is_below w ↦
          let none : a0 + B * a1 ≡ q * d + r =
          small_rest_guess_is_exact _ _ (a0 + B * a1) _ _ _ _ c.is_below-2.ensures.other_fits
          (omega (arith, c.requires.high, ea)) c.split-q0.ensures.high_fits guess eq (grind arith) in
          rw (w.q-is, w.r-is) (ea ∙ none)
    ] in
    elim c.if-not-is_below.branch [
      | then-not-is_below w ↦
          let up = step_up _ _ _ _ _ _ _ c.is_below-2.ensures.other_fits c.requires.high c.is_below-2.ensures.fits
          w.wrapping_sub-r.ensures.fits (grind arith) corrected
          (w.wrapping_add-q-then-not-is_below.ensures.value
          ∙ ap (λ x. (n c.if-is_below.q + x) % B) w.one-then-not-is_below.ensures)
          w.wrapping_sub-r.ensures.value in
          rw (w.q-is, w.r-is)
          (record {
            whole = up.0;
            below = omega (arith, up.1, c.is_below-2.ensures.fits, c.requires.reciprocal.normalized);
          })
      | else-not-is_below w ↦ rw (w.q-is, w.r-is) (record { whole = corrected; below = grind arith })
    ]
