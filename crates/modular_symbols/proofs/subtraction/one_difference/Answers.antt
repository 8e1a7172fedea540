-- The two cases, by which number is the greater.
use Rattle.std.proofs.Common.{◌≡◌, ◌+◌, ◌/◌, pos, ap, ◌∙◌, arith}
use Rattle.modular_symbols.specs.Jacobi.{jacobi}
use Rattle.modular_symbols.specs.Kronecker.{signed}
use Rattle.modular_symbols.proofs.SubtractionSteps.{Wraps, wrapped_zeros, halved_above, halved_below}
use Rattle.modular_symbols.proofs.SubtractionSteps.{jacobi-above, jacobi-below, turns_added}
use Rattle.modular_symbols.proofs.TurnBits.{is_odd, xor-parities}
use Rattle.modular_symbols.proofs.TwoPart.{Halved}
use Rattle.modular_symbols.proofs.subtraction.one_difference.Given.{Over}
use Rattle.modular_symbols.proofs.subtraction.one_difference.Goals as goal
use Rattle.modular_symbols.proofs.subtraction.one_difference.Goals.{then-less, else-less}

halves : (g : Over) (c : goal.After-shift_right g)
    → Halved (g.T.RingWord.number c.if-less.difference.0) c.trailing_zeros-zeros.result
    (g.T.RingWord.number c.shift_right.result)
halves g c =
    let n = g.T.RingWord.number in
    let wraps : Wraps g.T.RingWord.width g.T.PathWord.base (n c.wrapping_sub.result) (n c.args.a)
    (n c.args.n) = search arith in
    elim c.if-less.branch [
      | then-less w ↦
          halved_below _ _ _ _ _ _ _ _ wraps c.requires.differ
          (ap (λ v. n v.0 + n c.args.a) w.difference-is ∙ w.minus.ensures.value)
          c.trailing_zeros-zeros.ensures.value c.shift_right.ensures.value
      | else-less w ↦
          halved_above _ _ _ _ _ _ _ _ wraps c.requires.differ
          (ap (λ v. n v.0 + n c.args.n) w.difference-is ∙ w.minus-else-less.ensures.value)
          c.trailing_zeros-zeros.ensures.value c.shift_right.ensures.value
    ]

pub turn_by_twos-requires : goal.turn_by_twos-requires
turn_by_twos-requires g c = search (arith, then-less, else-less)

pub shift_right-requires : goal.shift_right-requires
shift_right-requires g c =
    let n = g.T.RingWord.number in
    let wraps : Wraps g.T.RingWord.width g.T.PathWord.base (n c.wrapping_sub.result) (n c.args.a)
    (n c.args.n) = grind arith in
    wrapped_zeros _ _ _ _ _ _ wraps c.requires.differ c.trailing_zeros-zeros.ensures.value

pub returns-clause-below_odd : goal.returns-clause-below_odd
returns-clause-below_odd g c = search (arith, then-less, else-less)

pub returns-clause-above_odd : goal.returns-clause-above_odd
returns-clause-above_odd g c = (halves g c).odd

turn : (g : Over) (c : goal.After-shift_right g)
    → jacobi (pos (g.T.RingWord.number c.args.a)) (g.T.RingWord.number c.args.n)
    ≡ signed (is_odd (c.turn_by_swap.result / 2 + c.turn_by_twos.result))
    (jacobi (pos (g.T.RingWord.number c.shift_right.result)) (g.T.RingWord.number c.if-less.difference.1))
turn g c =
    let n = g.T.RingWord.number in
    elim c.if-less.branch [
      | then-less w ↦
          jacobi-below _ _ _ _ _ _ _ _ _ w.if-less.true (ap (λ v. n v.1) w.difference-is) c.turn_by_swap.ensures
          (record { law = c.turn_by_twos.ensures }) (halves g c) c.requires.a_odd
          (ap (λ v. n v.0 + n c.args.a) w.difference-is ∙ w.minus.ensures.value)
      | else-less w ↦
          jacobi-above _ _ _ _ _ _ _ _ _ w.if-less.false (ap (λ v. n v.1) w.difference-is) c.turn_by_swap.ensures
          (record { law = c.turn_by_twos.ensures }) (halves g c) c.requires.n_odd
          (ap (λ v. n v.0 + n c.args.n) w.difference-is ∙ w.minus-else-less.ensures.value)
    ]

pub returns-clause-symbol : goal.returns-clause-symbol
returns-clause-symbol g c =
    let n = g.T.RingWord.number in
    turns_added _ _ (c.args.swaps / 2 + c.args.twos) _ _ (turn g c) (xor-parities _ _ _ _)

pub returns-clause-less : goal.returns-clause-less
returns-clause-less g c =
    let within = (halves g c).within in
    grind (arith, then-less, else-less)
