-- The symbol over n of at least 1, by the power of two in n.
use Rattle.std.proofs.Common.{◌≡◌, ◌≢◌, ◌≤◌, ◌/◌, ◌%◌, ◌^◌, ◌&&◌, ◌==◌, pos}
use Rattle.std.proofs.Common.{ℤ, nat_abs, sym, ap, ◌∙◌, subst, rules}
use Rattle.std.proofs.lemmas.Bool.{false≢true}
use Rattle.modular_symbols.specs.Jacobi.{jacobi}
use Rattle.modular_symbols.specs.Kronecker.{signed}
use Rattle.modular_symbols.proofs.KroneckerSteps.{jacobi-small, above-odd, above-both_even}
use Rattle.modular_symbols.proofs.KroneckerSteps.{above-twos, leaves_3_or_5, times_two, times_four}
use Rattle.modular_symbols.proofs.TwoPart.{SplitAt, split_at}
use Rattle.std.proofs.lemmas.Int.{to_z-of_z}
use Rattle.std.specs.Int.{w8}
use Rattle.modular_symbols.proofs.magnitudes.symbol_above.Goals as goal
use Rattle.modular_symbols.proofs.magnitudes.symbol_above.Goals.{then-twos-eq1, else-twos-eq1}

pub jacobi_symbol-symbol-requires : goal.jacobi_symbol-symbol-requires
jacobi_symbol-symbol-requires g c =
    let n = g.T.RingWord.number in
    let split = subst (λ s. SplitAt (n c.args.n) s) (sym c.trailing_zeros-twos.ensures.value)
    (split_at g.T.RingWord.width (n c.args.n) c.requires c.is_odd.ensures.fits) in
    ap (λ v. v % 2) c.shift_right.ensures.value ∙ split.odd

pub turned_symbol-requires : goal.turned_symbol-requires
turned_symbol-requires g c =
    subst (λ (v : ℤ). nat_abs v ≤ 1) (sym (to_z-of_z w8 _ (search rules) ∙ c.jacobi_symbol-symbol.ensures))
    (jacobi-small (signed c.args.a_minus (pos (g.T.RingWord.number c.args.a))) _)

pub returns-then-is_odd-clause-value : goal.returns-then-is_odd-clause-value
returns-then-is_odd-clause-value g c =
    to_z-of_z w8 _ (search rules) ∙ c.jacobi_symbol.ensures
    ∙ sym (above-odd (signed c.args.a_minus (pos (g.T.RingWord.number c.args.a))) _
    (c.is_odd.ensures.odd.0 c.if-is_odd.true))

pub returns-then-is_odd-clause-small : goal.returns-then-is_odd-clause-small
returns-then-is_odd-clause-small g c =
    subst (λ (v : ℤ). nat_abs v ≤ 1) (sym (to_z-of_z w8 _ (search rules) ∙ c.jacobi_symbol.ensures))
    (jacobi-small (signed c.args.a_minus (pos (g.T.RingWord.number c.args.a))) _)

pub returns-after-twos-eq1-clause-value : goal.returns-after-twos-eq1-clause-value
returns-after-twos-eq1-clause-value g c =
    let n = g.T.RingWord.number in
    let s = c.trailing_zeros-twos.result in
    let z = signed c.args.a_minus (pos (n c.args.a)) in
    let split : SplitAt (n c.args.n) s = subst (λ v. SplitAt (n c.args.n) v) (sym c.trailing_zeros-twos.ensures.value)
    (split_at g.T.RingWord.width (n c.args.n) c.requires c.is_odd.ensures.fits) in
    let odd : n c.args.a % 2 ≡ 1 = c.is_odd-else-is_odd.ensures.odd.0 c.if-is_odd-2.true in
    let turned : c.if-twos-eq1.turned_symbol ≡ (s % 2 == 1) && leaves_3_or_5 (n c.args.a) =
    elim c.if-twos-eq1.branch [
      | then-twos-eq1 w ↦
          times_two s (n c.args.a) _ w.if-twos-eq1.true (w.turned_symbol-is ∙ w.is_minus_over_two.ensures)
      | else-twos-eq1 w ↦ times_four s (n c.args.a) _ w.if-twos-eq1.false w.turned_symbol-is
    ] in
    to_z-of_z w8 _ (search rules) ∙ c.turned_symbol.ensures.value ∙ ap (λ v. signed c.if-twos-eq1.turned_symbol v)
    (to_z-of_z w8 _ (search rules) ∙ c.jacobi_symbol-symbol.ensures ∙ ap (λ k. jacobi z k) c.shift_right.ensures.value)
    ∙ ap (λ b. signed b (jacobi z (n c.args.n / 2 ^ s))) turned ∙ sym (above-twos _ _ _ s odd split)

pub returns-else-is_odd-2-clause-value : goal.returns-else-is_odd-2-clause-value
returns-else-is_odd-2-clause-value g c =
    let n = g.T.RingWord.number in
    let n_even : n c.args.n % 2 ≢ 1 = λ e. false≢true (sym c.if-is_odd.false ∙ c.is_odd.ensures.odd.1 e) in
    let a_even : n c.args.a % 2 ≢ 1 = λ e.
    false≢true (sym c.if-is_odd-2.false ∙ c.is_odd-else-is_odd.ensures.odd.1 e) in
    sym (above-both_even _ _
    _ _ a_even n_even c.requires c.is_odd.ensures.fits)
