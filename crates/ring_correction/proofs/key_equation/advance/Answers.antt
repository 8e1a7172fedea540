use Rattle.num_modular.specs.Callers.{ℕ, ◌+◌, ◌*◌, ◌∙◌, refl, sym, arith}
use Rattle.ring_correction.proofs.KeyPairs.{kept_pair}
use Rattle.ring_correction.proofs.key_equation.advance.Goals as goal

pub returns-then-is_zero-2-clause-pairs : goal.returns-then-is_zero-2-clause-pairs
returns-then-is_zero-2-clause-pairs g c d k i x y whole lengths a b p = record {
  first = kept_pair (c.is_zero.ensures.0 c.if-is_zero.true)
      (c.discrepancy-first_discrepancy.ensures.value d _ _ whole a b) p.first;
  second = kept_pair (c.is_zero-then-is_zero.ensures.0 c.if-is_zero-2.true)
      (c.discrepancy-second_discrepancy.ensures.value d _ _ (sym c.requires.equal ∙ whole) a b) p.second;
}

pub returns-then-is_zero-clause-pairs : goal.returns-then-is_zero-clause-pairs
returns-then-is_zero-clause-pairs g c d k i x y whole lengths a b p = record {
  first = kept_pair (c.is_zero.ensures.0 c.if-is_zero.true)
      (c.discrepancy-first_discrepancy.ensures.value d _ _ whole a b) p.first;
  second = c.raise.ensures.pair d k i _ _ x y (sym c.requires.equal ∙ whole) lengths (omega arith) a p.second;
}

pub returns-then-is_zero-3-clause-pairs : goal.returns-then-is_zero-3-clause-pairs
returns-then-is_zero-3-clause-pairs g c d k i x y whole lengths a b p = record {
  first = c.raise-then-is_zero-3.ensures.pair d k i _ _ x y whole lengths (omega arith) a p.first;
  second = kept_pair (c.is_zero-2.ensures.0 c.if-is_zero-3.true)
      (c.discrepancy-second_discrepancy.ensures.value d _ _ (sym c.requires.equal ∙ whole) a b) p.second;
}

pub returns-in-Ok-clause-pairs : goal.returns-in-Ok-clause-pairs
returns-in-Ok-clause-pairs g c d k i x y whole lengths a b p = let back = sym c.requires.equal ∙ whole in record {
  first = c.in-Ok.ensures.pivot refl d k i _ _ x y back lengths (omega arith) a p.first;
  second = c.in-Ok.ensures.other refl d k i _ _ x y back lengths (omega arith)
      (c.discrepancy-first_discrepancy.ensures.value d _ _ whole a b)
      (c.discrepancy-second_discrepancy.ensures.value d _ _ back a b) p.first p.second;
}

pub returns-in-Ok-reduce-clause-pairs : goal.returns-in-Ok-reduce-clause-pairs
returns-in-Ok-reduce-clause-pairs g c d k i x y whole lengths a b p = record {
  first = c.in-Ok-reduce.ensures.other refl d k i _ _ x y whole lengths (omega arith)
      (c.discrepancy-second_discrepancy.ensures.value d _ _ (sym c.requires.equal ∙ whole) a b)
      (c.discrepancy-first_discrepancy.ensures.value d _ _ whole a b) p.second p.first;
  second = c.in-Ok-reduce.ensures.pivot refl d k i _ _ x y whole lengths (omega arith) a p.second;
}
