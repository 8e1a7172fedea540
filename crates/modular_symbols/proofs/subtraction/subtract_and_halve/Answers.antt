-- The turns of the loop, and the symbol of two equal numbers.
use Rattle.std.proofs.lemmas.Int.{to_z-of_z}
use Rattle.std.specs.Int.{w8}
use Rattle.std.proofs.Common.{rules, ◌+◌, ◌/◌, pos, sym, ap, ◌∙◌, arith}
use Rattle.modular_symbols.specs.Jacobi.{jacobi}
use Rattle.modular_symbols.specs.Kronecker.{signed}
use Rattle.modular_symbols.proofs.SubtractionSteps.{kept_equal_last}
use Rattle.modular_symbols.proofs.TurnBits.{is_odd, xor-parity, is_true_by_false_negation}
use Rattle.modular_symbols.proofs.subtraction.subtract_and_halve.Goals as goal

pub differences-init : goal.differences-init
differences-init g c =
    let n = g.T.RingWord.number in
    record {
      odd = c.odd_part-above.ensures.odd;
      symbol = record {
        odd = c.requires;
        value =
            ap (λ k. signed (is_odd k) (jacobi (pos (n c.odd_part-above.result.0)) (n c.args.n))) (omega arith)
            ∙ sym c.odd_part-above.ensures.symbol;
      };
    }

pub returns : goal.returns
returns g c =
    to_z-of_z w8 _ (search rules) ∙ kept_equal_last _ _ _ _ (c.differences.swaps / 2 + c.differences.twos) _
    c.differences.invariant.symbol ((g.met.T.RingWord.equal c.differences.above c.differences.below).0
    (is_true_by_false_negation _ (sym c.ne.ensures ∙ c.differences-test.false))) (xor-parity (c.differences.swaps / 2)
    c.differences.twos)
    c.last_symbol.ensures.one c.last_symbol.ensures.more
