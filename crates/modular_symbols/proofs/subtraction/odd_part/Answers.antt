-- What is left of the number without its twos; n is congruent to 0.
use Rattle.std.proofs.Common.{◌≡◌, ◌≢◌, ◌%◌, ◌^◌, ◌<◌, arith}
use Rattle.std.proofs.Math.Nat.{mod_self, zero-mod}
use Rattle.std.proofs.lemmas.Bool.{false≢true}
use Rattle.modular_symbols.proofs.SubtractionSteps.{jacobi-odd_part}
use Rattle.modular_symbols.proofs.TurnBits.{is_odd}
use Rattle.modular_symbols.proofs.TwoPart.{Halved, Halved-of_shift}
use Rattle.modular_symbols.proofs.subtraction.odd_part.Given.{Over}
use Rattle.modular_symbols.proofs.subtraction.odd_part.Goals as goal
use Rattle.modular_symbols.proofs.subtraction.odd_part.Goals.{then-is_zero_word, else-is_zero_word}

halves : (g : Over) (c : goal.After-turn_by_twos g)
    → Halved (g.T.RingWord.number c.if-is_zero_word.some) c.trailing_zeros-twos.result
    (g.T.RingWord.number c.shift_right.result)
halves g c =
    let n = g.T.RingWord.number in
    let some : n c.if-is_zero_word.some ≢ 0 = search (arith, then-is_zero_word, else-is_zero_word, false≢true) in
    let fits : n c.if-is_zero_word.some < 2 ^ g.T.RingWord.width =
    omega (arith, c.trailing_zeros-twos.ensures.fits, g.met.T.PathWord.base_is) in
    search (arith, Halved-of_shift)

pub returns-clause-odd : goal.returns-clause-odd
returns-clause-odd g c = (halves g c).odd

pub returns-clause-symbol : goal.returns-clause-symbol
returns-clause-symbol g c =
    let n = g.T.RingWord.number in
    let same : n c.args.a % n c.args.n ≡ n c.if-is_zero_word.some % n c.args.n =
    grind (arith, then-is_zero_word, zero-mod, mod_self, else-is_zero_word) in
    jacobi-odd_part _ _ _ _ _ (is_odd _) (record { law = c.turn_by_twos.ensures }) (halves g c)
    (omega (arith, c.requires)) same
