use Rattle.ring_codes.proofs.Names.{◌+◌, length, arith, held_entry}
use Rattle.ring_codes.proofs.Symbols.{part_encoded}
use Rattle.ring_codes.proofs.erasure.evaluate_each.Goals as goal

pub groups-preserved : goal.groups-preserved
groups-preserved g c =
    let ring = g.R.Reducer in let m = ring.modulus c.args.r.now in let number = g.T.RingWord.number in (
      omega arith,
      part_encoded number ring.form ring.value m (length c.args.coefficients.now) _ c.args.points.now c.groups.values
          c.evaluate_side_by_side.new.values c.groups.from (c.groups.from + 8) _ (omega arith) (omega arith)
          (omega arith) (omega arith)
          c.groups.invariant.1 c.evaluate_side_by_side.ensures.checked c.evaluate_side_by_side.ensures.encoding,
    )

pub returns-clause-encoding : goal.returns-clause-encoding
returns-clause-encoding g c =
    let whole = part_encoded _ _ _ _ _ _ _ _
    _ _ _ _ (omega arith) (omega arith)
    (omega arith) (omega arith) c.groups.invariant.1 c.evaluate_side_by_side-2.ensures.checked
    c.evaluate_side_by_side-2.ensures.encoding in
    record { symbol = λ i l. held_entry _ _ _ _ _ _ _ i whole l (omega arith) }
