use Rattle.num_modular.specs.Callers.{◌≤◌, ◌+◌, ◌∙◌, length, arith}
use Rattle.ring_correction.proofs.KeyPairs.{eliminated_pair_is_key_pair}
use Rattle.ring_codes.proofs.Symbols.{entry_front, entry_back}
use Rattle.ring_correction.proofs.key_equation.reduce.Goals as goal

pub returns-in-Some-clause-pivot : goal.returns-in-Some-clause-pivot
returns-in-Some-clause-pivot g c t d k i u v x y whole = c.raise.ensures.pair d k i u v x y (c.requires.equal ∙ whole)

pub returns-in-Some-clause-other : goal.returns-in-Some-clause-other
returns-in-Some-clause-other g c t d k i u v x y whole lengths less is_p is_q =
    let ring = g.R.Reducer in let m = ring.modulus c.args.r.now in let number = g.T.RingWord.number in
    let split = c.args.split in let other = c.args.other.now in let pivots = c.args.pivot.now in
    let made = c.eliminate.new.coefficients in let same = c.eliminate.auto.coefficients in
    let in_made : split ≤ length made = omega (arith, same, whole) in
    let in_pivot : split ≤ length pivots = omega (arith, c.requires.equal, whole) in
    eliminated_pair_is_key_pair m k split d i u v _ _ x y _ _ _ _ _ _ lengths less (_, c.in-Some.ensures.value)
    (λ l b. rw (
      entry_front number ring.value m made split l b in_made,
      entry_front number ring.value m pivots split l b in_pivot,
      entry_front number ring.value m other split l b c.requires.within,
    ) (c.eliminate.ensures.difference l (omega (arith, b, whole))))
    (λ l b. rw (
      entry_back number ring.value m made split l,
      entry_back number ring.value m pivots split l,
      entry_back number ring.value m other split l,
    ) (c.eliminate.ensures.difference (split + l) (omega (arith, b, whole))))
    is_p is_q
