use Rattle.num_modular.specs.Callers.{◌*◌, ◌%◌, arith, entry, held_entry}
use Rattle.ring_codes.proofs.Congruences.{mod_of_residue}
use Rattle.ring_decoder.proofs.SyndromeSums.{sums_alike}
use Rattle.ring_decoder.proofs.syndromes.fill_syndromes.Goals as goal

pub returns-clause-sums : goal.returns-clause-sums
returns-clause-sums g c =
    let ring = g.R.Reducer in let m = ring.modulus c.args.r.now in let number = g.T.RingWord.number in
    let v = entry number ring.value m c.args.weights.now in let y = entry number ring.value m c.args.word.now in
    sums_alike m _ _ _ (entry number ring.value m c.points.terms) (λ i. v i * y i) _
    (λ i l. mod_of_residue (held_entry number ring.form ring.value m c.points.terms (λ i. (v i * y i) % m)
    c.points.i i c.points.invariant (omega arith) (omega arith))) c.fill_power_sums.ensures.sums
