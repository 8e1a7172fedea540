-- The symbol over 0, and over a number of at least 1.
use Rattle.std.proofs.Common.{◌≡◌, ◌≢◌, ◌&&◌, ℤ, pos, sym, ap, ◌∙◌, arith, rules}
use Rattle.std.proofs.lemmas.Bool.{cond-true, cond-false, eq-eqb, ne_eqb, false≢true}
use Rattle.modular_symbols.specs.Kronecker.{signed, kronecker_above}
use Rattle.modular_symbols.proofs.KroneckerSteps.{kronecker-over_zero, kronecker-over}
use Rattle.std.proofs.lemmas.Int.{to_z-of_z}
use Rattle.std.specs.Int.{w8}
use Rattle.modular_symbols.proofs.magnitudes.kronecker_symbol.Goals as goal
use Rattle.modular_symbols.proofs.magnitudes.kronecker_symbol.Goals.{then-a_minus, else-a_minus}

pub returns-then-eq : goal.returns-then-eq
returns-then-eq g c =
    let n = g.T.RingWord.number in
    let one = (g.met.T.RingWord.equal c.args.a c.one.result).0 (sym c.eq.ensures ∙ c.if-eq.true) ∙ c.one.ensures in
    sym (kronecker-over_zero c.args.a_minus c.args.n_minus (n c.args.a) (n c.args.n)
    (c.is_zero_word.ensures.zero.0 c.if-is_zero_word.true) ∙ cond-true _ _ _ (eq-eqb (n c.args.a) 1 one))

pub returns-else-eq : goal.returns-else-eq
returns-else-eq g c =
    let n = g.T.RingWord.number in
    let other : n c.args.a ≢ 1 = λ e.
    let t = (g.met.T.RingWord.equal c.args.a c.one.result).1 (e ∙ sym c.one.ensures) in
    false≢true (sym c.if-eq.false ∙ c.eq.ensures ∙ t) in
    sym (kronecker-over_zero c.args.a_minus c.args.n_minus (n c.args.a) (n c.args.n)
    (c.is_zero_word.ensures.zero.0 c.if-is_zero_word.true) ∙ cond-false _ _ _ (ne_eqb (n c.args.a) 1 other))

pub returns-after-a_minus : goal.returns-after-a_minus
returns-after-a_minus g c =
    let n = g.T.RingWord.number in
    let some : n c.args.n ≢ 0 = λ e. false≢true (sym c.if-is_zero_word.false ∙ c.is_zero_word.ensures.zero.1 e) in
    let z : ℤ = signed c.args.a_minus (pos (n c.args.a)) in
    let turned : c.if-a_minus.turned_symbol ≡ c.args.a_minus && c.args.n_minus =
    elim c.if-a_minus.branch [
      | then-a_minus w ↦ w.turned_symbol-is ∙ sym (ap (λ b. b && c.args.n_minus) w.if-a_minus.true)
      | else-a_minus w ↦
          w.turned_symbol-is ∙ w.if-a_minus.false ∙ sym (ap (λ b. b && c.args.n_minus) w.if-a_minus.false)
    ] in
    to_z-of_z w8 _ (search rules) ∙ c.turned_symbol.ensures.value ∙ ap (λ v. signed c.if-a_minus.turned_symbol v)
    (to_z-of_z w8 _ (search rules) ∙ c.symbol_above.ensures.value)
    ∙ ap (λ b. signed b (kronecker_above z (n c.args.n))) turned
    ∙ sym (kronecker-over _ _ _ _ c.requires.a_sign c.requires.n_sign (omega arith))
