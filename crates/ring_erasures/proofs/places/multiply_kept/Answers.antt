use Rattle.num_modular.specs.Callers.{◌∙◌, arith, entry_read, forms_written, hold_more}
use Rattle.num_modular.specs.Callers.{held_entry, values_below}
use Rattle.std.proofs.Math.Nat.{zero-mod}
use Rattle.ring_erasures.proofs.ErasedPlaces.{scattered_more}
use Rattle.ring_erasures.proofs.places.multiply_kept.Goals as goal

pub symbols-preserved : goal.symbols-preserved
symbols-preserved g c =
    let ring = g.R.Reducer in let m = ring.modulus c.args.r.now in let number = g.T.RingWord.number in
    let word = c.args.word.now in let factors = c.args.factors.now in let products = c.symbols.products in let i =
    c.symbols.i in
    let below = c.symbols-test.true in let kept = c.symbols.auto.products in
    let left = entry_read number ring.value m word i _ (omega (arith, below, kept, c.requires.each_symbol))
    c.index-word-i.is in
    let right = entry_read number ring.value m factors i _ (omega (arith, below, kept, c.requires.each_factor))
    c.index-factors-i.is in
    hold_more number _ _ _ _ _ _ _ (omega (arith, below, kept)) c.symbols.invariant
    c.mul.ensures.checked (rw (← left, ← right) c.mul.ensures.value)

pub places-preserved : goal.places-preserved
places-preserved g c =
    let number = g.T.RingWord.number in let ring = g.R.Reducer in let m = ring.modulus c.args.r.now in
    let so_far = c.places.invariant in let zero = c.transform-zero in (
      forms_written number _ _ _ _ _ _ zero.ensures.checked so_far.0,
      scattered_more number ring.value m c.places.l _ _ _ _ _ _
          (rw (c.places.auto.products ∙ c.symbols.auto.products) c.requires.places) c.places-test.true so_far.1
          (zero.ensures.value ∙ rw c.zero.ensures (zero-mod _)),
    )

pub returns-clause-products : goal.returns-clause-products
returns-clause-products g c =
    let kept = c.places.auto.products in let before = c.symbols.auto.products in record {
      zeros = λ l below. c.places.invariant.1.there l (omega arith);
      each = λ i below left. c.places.invariant.1.kept i (λ l b. left l (omega arith))
          ∙ held_entry _ _ _ _ c.symbols.products _ _ i c.symbols.invariant (omega arith) (omega arith);
      below = λ i b. values_below _ _ _ _ c.places.products i c.places.invariant.0 (omega (arith, b, kept, before));
    }
