-- Each turn of the loop keeps the symbol up to its sign, and counts its steps.
use Rattle.std.proofs.lemmas.Int.{to_z-of_z}
use Rattle.std.specs.Int.{w8}
use Rattle.std.proofs.Common.{rules, arith, ◌≢◌, ◌+◌, ◌*◌, ◌≤◌, ◌∙◌, pos}
use Rattle.std.proofs.lemmas.Bool.{false≢true}
use Rattle.modular_symbols.specs.Jacobi.{jacobi}
use Rattle.modular_symbols.proofs.HalvingSteps.{kept_swapped}
use Rattle.modular_symbols.proofs.TurnedSymbols.{kept_start, kept_last}
use Rattle.modular_symbols.proofs.TwoPart.{halved_by}
use Rattle.modular_symbols.proofs.StepCounts.{counts_start, counts_turn, final_count_is_jacobi_steps, counts_few}
use Rattle.modular_symbols.proofs.halving.halve_and_swap.Goals as goal
use Rattle.modular_symbols.proofs.halving.halve_and_swap.Goals.{After-rest-above}

pub swaps-init : goal.swaps-init
swaps-init g c = record { symbol = kept_start _ _ c.requires.odd; counts = counts_start _ _ _ }

pub odd_part-odd-requires : goal.odd_part-odd-requires
odd_part-odd-requires g c =
    grind (arith, false≢true)

pub swaps-smaller : goal.swaps-smaller
swaps-smaller g c =
    let n = g.T.RingWord.number in
    let h = halved_by (n c.swaps.above) c.odd_part-odd.result.1 (n c.odd_part-odd.result.0) c.odd_part-odd.ensures.odd
    c.odd_part-odd.ensures.whole in
    omega (arith, c.rest-above.ensures.rest)

pub swaps-preserved : goal.swaps-preserved
swaps-preserved g c =
    let n = g.T.RingWord.number in
    let h = halved_by _ _ _ c.odd_part-odd.ensures.odd c.odd_part-odd.ensures.whole in
    record {
      symbol =
          kept_swapped (jacobi (pos (n c.args.a)) (n c.args.n)) _ _ _ _ _ c.swaps.turned _
          c.swaps.invariant.symbol h c.is_turned-turned.ensures c.rest-above.ensures.rest;
      counts = search (arith, counts_turn, g.met.T.PathWord.base_is);
    }

-- the steps so far are few
count_at_most_twice_width : (g : _) (c : After-rest-above g)
    → c.swaps.count + (c.odd_part-odd.result.1 + 1) ≤ 2 * g.T.RingWord.width
count_at_most_twice_width g c =
    let h = halved_by _ _ _ c.odd_part-odd.ensures.odd c.odd_part-odd.ensures.whole in
    let after =
    counts_turn _ _ _ _ _ _ _ _ _ _ c.swaps.invariant.counts h
    c.rest-above.ensures.rest g.met.T.PathWord.base_is c.rest-above.ensures.fits in
    counts_few _ _ _ _ _ _ after c.requires.below

pub overflow_add-count : goal.overflow_add-count
overflow_add-count g c =
    omega (
      arith,
      count_at_most_twice_width g (goal.at.overflow_add-count g c).After-rest-above,
      g.met.T.RingWord.width_to,
    )

pub overflow_add-count-in-swaps : goal.overflow_add-count-in-swaps
overflow_add-count-in-swaps g c =
    omega (
      arith,
      count_at_most_twice_width g (goal.at.overflow_add-count-in-swaps g c).After-rest-above,
      g.met.T.RingWord.width_to,
    )

pub returns-clause-symbol : goal.returns-clause-symbol
returns-clause-symbol g c =
    to_z-of_z w8 _ (search rules)
    ∙ kept_last _ _ _ _ c.swaps.turned c.swaps.invariant.symbol (c.is_zero_word.ensures.zero.0 c.swaps-test.false)
    c.last_symbol.ensures.one c.last_symbol.ensures.more

pub returns-clause-count : goal.returns-clause-count
returns-clause-count g c =
    final_count_is_jacobi_steps _ _ _ _ _ _ c.swaps.invariant.counts (c.is_zero_word.ensures.zero.0 c.swaps-test.false)

pub returns-clause-at_most : goal.returns-clause-at_most
returns-clause-at_most g c = omega (arith, (counts_few _ _ _ _ _ _ c.swaps.invariant.counts c.requires.below))
