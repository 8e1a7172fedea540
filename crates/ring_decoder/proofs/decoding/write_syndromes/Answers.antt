use Rattle.std.proofs.lemmas.Bool.{eqb-false}
use Rattle.std.proofs.lemmas.Nat.{pow_pos}
use Rattle.std.proofs.Common.{rules, Some}
use Rattle.num_modular.specs.Callers.{◌≡◌, ◌<◌, ◌∙◌, sym, arith, length, entry}
use Rattle.num_modular.specs.Inverses.{HasInverse}
use Rattle.ring_decoder.proofs.CorrectedWords.{fit_of_weights}
use Rattle.ring_codes.proofs.KnownRoots.{suits_known}
use Rattle.ring_decoder.proofs.RootSyndromes.{length_has_inverse_by_differences}
use Rattle.ring_decoder.proofs.decoding.write_syndromes.Goals as goal
use Rattle.ring_decoder.proofs.decoding.write_syndromes.Goals.{Start}

pub fill_syndromes_by_transform-requires-clause-suits : goal.fill_syndromes_by_transform-requires-clause-suits
fill_syndromes_by_transform-requires-clause-suits g c =
    let ring = g.R.Reducer in let m = ring.modulus c.args.r.now in
    let a = ring.value m (g.T.RingWord.number c.in-Some.g) in
    rw c.requires.each_symbol (suits_known m a (length c.args.points.now) (c.requires.suits _ c.in-Some.is))

pub returns-then-fill_syndromes_by_transform-clause-sums : goal.returns-then-fill_syndromes_by_transform-clause-sums
returns-then-fill_syndromes_by_transform-clause-sums g c =
    let ring = g.R.Reducer in let m = ring.modulus c.args.r.now in let number = g.T.RingWord.number in
    let x = entry number ring.value m c.args.points.now in let v = entry number ring.value m c.args.weights.now in
    let same = c.requires.each_symbol in
    rw same at (c.fill_syndromes_by_transform.ensures.sums c.if-fill_syndromes_by_transform.true x v
    (rw same (c.requires.powers _ c.in-Some.is)) (rw same (fit_of_weights m _ x v c.requires.weights_of))
    (rw same c.requires.weights_of))

pub returns-else-is_empty-clause-sums : goal.returns-else-is_empty-clause-sums
returns-else-is_empty-clause-sums g c =
    let ring = g.R.Reducer in let m = ring.modulus c.args.r.now in let number = g.T.RingWord.number in
    let x = entry number ring.value m c.args.points.now in let v = entry number ring.value m c.args.weights.now in
    let some_checks = eqb-false _ _ (sym c.is_empty.ensures ∙ c.if-is_empty.false) in
    let some : 0 < length c.args.checks.now = omega (arith, some_checks) in
    let same = c.requires.each_symbol in let kept = c.match-root.auto.syndromes in
    rw (kept, same) at (c.fill_checked_syndromes.ensures.sums x v (rw (kept, same) (c.requires.table some)))

-- where there is a root, the number of the symbols has an inverse
word_length_has_inverse : (g : _) (c : Start g) (a : _) → c.args.root ≡ Some a
    → HasInverse (g.R.Reducer.modulus c.args.r.now) (length c.args.word.now)
word_length_has_inverse g c a is =
    let ring = g.R.Reducer in let m = ring.modulus c.args.r.now in
    let positive = (g.met.R.Reducer.canonical c.args.r.now).positive in
    rw c.requires.each_symbol (length_has_inverse_by_differences m (ring.value m (g.T.RingWord.number a)) _ _ positive
    (suits_known m _ _ (c.requires.suits a is)) (c.requires.powers a is) (fit_of_weights m _ _ _ c.requires.weights_of))

pub returns-then-is_empty-clause-counted : goal.returns-then-is_empty-clause-counted
returns-then-is_empty-clause-counted g c =
    search (rules, arith, word_length_has_inverse g (goal.at.returns-then-is_empty-clause-counted g c).Start)

pub returns-else-is_empty-clause-counted : goal.returns-else-is_empty-clause-counted
returns-else-is_empty-clause-counted g c =
    search (rules, arith, word_length_has_inverse g (goal.at.returns-else-is_empty-clause-counted g c).Start)

pub overflow_sub-result : goal.overflow_sub-result
overflow_sub-result g c =
    let ring = g.R.Reducer in let m = ring.modulus c.args.r.now in
    let suits = suits_known m (ring.value m (g.T.RingWord.number c.in-Some.g)) (length c.args.points.now)
    (c.requires.suits _ c.in-Some.is) in
    omega (arith, suits.power_of_two.1, pow_pos suits.power_of_two.0)
