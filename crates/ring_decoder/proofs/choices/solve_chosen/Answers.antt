use Rattle.num_modular.specs.Callers.{◌≡◌, ◌<◌, ◌*◌, ◌%◌, ℕ, refl, arith, length, entry}
use Rattle.num_modular.specs.NumberLaws.{mod_sym, mod_trans}
use Rattle.ring_codes.proofs.Congruences.{mod_of_residue, mod_times}
use Rattle.ring_decoder.proofs.SyndromeSums.{sums_alike}
use Rattle.ring_decoder.proofs.choices.solve_chosen.Goals as goal

pub returns-clause-sums : goal.returns-clause-sums
returns-clause-sums g c t =
    let m = g.R.Reducer.modulus c.args.r.now in let entries = entry g.T.RingWord.number g.R.Reducer.value m in
    let w = entries c.args.weights.now in let e = entries c.solve_errors.new.errors in
    sums_alike m _ _ _ (entries c.multiply_each.new.products) (λ i. w i * e i) _
    (λ i l. mod_of_residue (c.multiply_each.ensures.products i (omega (arith, c.requires.pairs, l))))
    (c.are_power_sums.ensures.sums.0 t)

pub returns-clause-only : goal.returns-clause-only
returns-clause-only g c d sums =
    let m = g.R.Reducer.modulus c.args.r.now in let entries = entry g.T.RingWord.number g.R.Reducer.value m in
    let w = entries c.args.weights.now in let e = entries c.solve_errors.new.errors in let few = c.requires.few in
    let same : (i : ℕ) → i < length c.args.points.now → e i ≡ d i % m =
    c.if-not-solve_errors.ensures.errors refl d (record { sum = λ h l. sums.sum h (omega (arith, l, few)) }) in (
      c.are_power_sums.ensures.sums.1 (sums_alike m _ _ _ (λ i. w i * d i) (entries c.multiply_each.new.products) _
          (λ i l. mod_sym (mod_trans
          (mod_of_residue (c.multiply_each.ensures.products i (omega (arith, c.requires.pairs, l))))
          (mod_times (w i) (mod_of_residue (same i l))))) sums),
      same,
    )
