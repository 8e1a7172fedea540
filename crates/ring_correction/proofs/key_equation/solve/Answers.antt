use Rattle.num_modular.specs.Callers.{◌≡◌, ◌-◌, ◌<◌, ◌≤◌, ◌+◌, ◌∙◌, sym, inl, inr, refl, arith, length, entry_read}
use Rattle.num_modular.specs.NumberLaws.{mod_of_eq}
use Rattle.ring_codes.proofs.Congruences.{has_one}
use Rattle.ring_codes.proofs.Symbols.{entry_front, entry_back}
use Rattle.ring_correction.proofs.key_equation.solve.Goals as goal

pub symbols-preserved : goal.symbols-preserved
symbols-preserved g c =
    let ring = g.R.Reducer in let m = ring.modulus c.args.r.now in let number = g.T.RingWord.number in
    let so_far = c.symbols.invariant in let i = c.symbols.i in
    let w = c.in-Ok.ensures.weights in let before = so_far.2 in
    let long = c.symbols.auto.first ∙ c.set_unit.auto.coefficients in (
      c.in-Ok.ensures.checked_first refl,
      c.in-Ok.ensures.checked_second refl,
      omega (arith, w, before),
      c.in-Ok.ensures.pairs _ c.args.k i _ _ (omega (arith, long, c.requires.some))
          (omega (arith, c.requires.some, c.requires.lengths))
          (sym (entry_read number ring.value m c.args.points.now i _ c.symbols-test.true c.index-points-i.is))
          (sym (entry_read number ring.value m c.args.symbols.now i _ (omega (arith, c.requires.symbols_each))
          c.index-symbols-i.is))
          so_far.3,
    )

pub returns-clause-pairs : goal.returns-clause-pairs
returns-clause-pairs g c d whole =
    let all : c.symbols.i ≡ length c.args.points.now = omega arith in
    let is_d : length c.args.first.now - c.args.split ≡ d = omega (arith, whole) in
    rw (is_d, all) at c.symbols.invariant.3

pub symbols-init : goal.symbols-init
symbols-init g c =
    let ring = g.R.Reducer in let m = ring.modulus c.args.r.now in let number = g.T.RingWord.number in
    let one = has_one m (g.met.R.Reducer.canonical c.args.r.now).positive in let split = c.args.split in
    let f = c.set_unit.new.coefficients in let s = c.set_unit-2.new.coefficients in
    let long = c.set_unit.auto.coefficients in let long_too = c.set_unit-2.auto.coefficients in
    let in_f : split ≤ length f = omega (arith, long, c.requires.some) in
    let in_s : split ≤ length s = omega (arith, long_too, c.requires.equal, c.requires.some) in
    let wide : 0 < split = omega (arith, c.requires.some, c.requires.lengths) in let same : split + 0 ≡ split =
    omega arith in (
      c.set_unit.ensures.checked,
      c.set_unit-2.ensures.checked,
      omega (arith, c.requires.positive),
      record {
        first = λ b. record {
          solves = λ j l. absurd (omega arith);
          leads = record {
            numerator_behind = λ l b z. mod_of_eq (entry_front number ring.value m f split l b in_f
                ∙ c.set_unit.ensures.others l (omega arith));
            locator_behind = λ l b z. mod_of_eq (entry_back number ring.value m f split l
                ∙ c.set_unit.ensures.others (split + l) (omega arith));
            unit = inl (
              0,
              omega arith,
              rw (entry_front number ring.value m f split 0 wide in_f, c.set_unit.ensures.one)
                  one,
            );
          };
        };
        second = λ b. record {
          solves = λ j l. absurd (omega arith);
          leads = record {
            numerator_behind = λ l b z. mod_of_eq (entry_front number ring.value m s split l b in_s
                ∙ c.set_unit-2.ensures.others l (omega arith));
            locator_behind = λ l b z. mod_of_eq (entry_back number ring.value m s split l
                ∙ c.set_unit-2.ensures.others (split + l) (omega (arith, z, c.requires.positive)));
            unit = inr (
              0,
              omega (arith, c.requires.positive),
              rw (entry_back number ring.value m s split 0, same, c.set_unit-2.ensures.one) one,
            );
          };
        };
      },
    )
