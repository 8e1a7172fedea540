use Rattle.num_modular.specs.Callers.{inl, inr, arith, length, entry}
use Rattle.std.proofs.lemmas.Bool.{cases_lt}
use Rattle.ring_decoder.specs.ErrorPatterns.{listed_weight}
use Rattle.ring_decoder.proofs.decoding.find_errors.Goals as goal

pub returns-in-Some-find_nonunit-clause-found : goal.returns-in-Some-find_nonunit-clause-found
returns-in-Some-find_nonunit-clause-found g c =
    let ring = g.R.Reducer in let m = ring.modulus c.args.r.now in let number = g.T.RingWord.number in
    let v = entry number ring.value m c.args.weights.now in
    let located = c.in-Some.ensures.located v c.requires.units in (
      c.in-Some-find_nonunit.ensures,
      λ errors near. elim (cases_lt 1 (listed_weight m (length c.args.points.now) c.args.lost.now errors)) [
        | inl two ↦ omega (arith, two)
        | inr one ↦ absurd (c.in-None-solve.ensures.solved errors near (located.single errors near one))
      ],
    )

pub returns-in-None-find_nonunit-clause-found : goal.returns-in-None-find_nonunit-clause-found
returns-in-None-find_nonunit-clause-found g c errors near =
    let ring = g.R.Reducer in let m = ring.modulus c.args.r.now in let number = g.T.RingWord.number in
    let v = entry number ring.value m c.args.weights.now in
    let located = c.in-Some.ensures.located v c.requires.units in
    let units = c.in-None-find_nonunit.ensures in let room = c.requires.values in
    c.in-None-solve.ensures.solved errors near
    (located.units units.0 (λ i l other. units.1 i (omega (arith, l, c.locate.auto.values, room)) other) errors near)
