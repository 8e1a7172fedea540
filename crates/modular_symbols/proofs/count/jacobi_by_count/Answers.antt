-- The count one number on, and the symbol at its end.
use Rattle.std.proofs.Common.{cond, pos, negsuc, sym, ap, ◌∙◌, arith}
use Rattle.modular_symbols.specs.Kronecker.{signed}
use Rattle.modular_symbols.proofs.CountSteps.{counted_next, counted_all}
use Rattle.modular_symbols.proofs.CountSteps.{shared_divisor, no_inverse, with_inverse}
use Rattle.modular_symbols.proofs.count.jacobi_by_count.Goals as goal

pub returns-then-is_none : goal.returns-then-is_none
returns-then-is_none g c =
    sym (shared_divisor (signed c.args.a_minus (pos (g.T.RingWord.number c.args.a))) _
    (no_inverse _ _ _ _ _ (omega (arith, c.requires)) c.invm.ensures c.if-is_none.ensures))

pub half_system-preserved : goal.half_system-preserved
half_system-preserved g c = counted_next record {
  odd_modulus = c.requires;
  half_is = c.half-half.ensures.value;
  one_is = c.one.ensures;
  before = c.is_below.ensures.below.0 c.half_system-test.true;
  follows = c.plus-x.ensures;
  residue_is = c.signed_residue-residue.ensures;
  product = c.mulm.ensures;
} c.half_system.invariant c.is_below-odd.ensures.below

pub returns-then-odd : goal.returns-then-odd
returns-then-odd g c =
    let coprime = with_inverse _ _ _ _ _ (omega (arith, c.requires)) c.invm.ensures c.if-is_none.ensures in
    sym (counted_all _ _ _ _ _ c.half_system.invariant c.requires c.half-half.ensures.value (grind arith) coprime
    ∙ ap (λ v. cond v (negsuc 0) (pos 1)) c.if-odd.true)

pub returns-else-odd : goal.returns-else-odd
returns-else-odd g c =
    let coprime = with_inverse _ _ _ _ _ (omega (arith, c.requires)) c.invm.ensures c.if-is_none.ensures in
    sym (counted_all _ _ _ _ _ c.half_system.invariant c.requires c.half-half.ensures.value (grind arith) coprime
    ∙ ap (λ v. cond v (negsuc 0) (pos 1)) c.if-odd.false)
