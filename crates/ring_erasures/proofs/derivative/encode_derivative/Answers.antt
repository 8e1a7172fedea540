use Rattle.num_modular.specs.Callers.{◌-◌, ◌∙◌, ap, arith, length, entry, IsForm}
use Rattle.num_modular.specs.NumberLaws.{mod_refl}
use Rattle.num_modular.specs.PolynomialLaws.{polynomial-congruent}
use Rattle.std.proofs.lemmas.List.Elements.{All-take}
use Rattle.ring_codes.proofs.Congruences.{mod_of_residue}
use Rattle.ring_codes.proofs.Symbols.{entry_front}
use Rattle.ring_erasures.specs.Erasures.{derivative}
use Rattle.ring_erasures.proofs.derivative.encode_derivative.Goals as goal

pub encode_by_transform-requires-clause-message : goal.encode_by_transform-requires-clause-message
encode_by_transform-requires-clause-message g c =
    let ring = g.R.Reducer in let m = ring.modulus c.args.r.now in
    let P = λ (f : _). IsForm ring.form ring.value m (g.T.RingWord.number f) in
    rw c.split_at_mut-derivative.ensures.front (All-take P _ _ c.differentiate.ensures.checked)

pub returns-clause-encoding : goal.returns-clause-encoding
returns-clause-encoding g c points powers =
    let number = g.T.RingWord.number in let ring = g.R.Reducer in let m = ring.modulus c.args.r.now in
    let d = entry number ring.value m c.split_at_mut-derivative.result.0.now in let old = c.args.coefficients.now in
    let whole = c.differentiate.new.coefficients in let same = c.differentiate.auto.coefficients in
    let values = rw (c.split_at_mut-derivative.ensures.front_len, same) at
    (c.encode_by_transform.ensures.encoding points powers) in
    record {
      symbol = λ i l. values.symbol i l
          ∙ (polynomial-congruent (length old - 1) d (derivative (entry number ring.value m old)) (points i) (points i)
          (λ j b. mod_of_residue
          (ap (λ forms. entry number ring.value m forms j) c.split_at_mut-derivative.ensures.front
          ∙ entry_front number ring.value m whole (length whole - 1) j (omega (arith, b, same)) (omega arith)
          ∙ c.differentiate.ensures.derivative j (omega (arith, b)))) (mod_refl (points i))).same;
    }
