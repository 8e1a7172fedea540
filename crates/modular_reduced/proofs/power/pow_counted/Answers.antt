use Rattle.std.proofs.Common.{rules, arith, ◌≡◌, ◌≢◌, ◌/◌, ◌%◌, ◌∙◌, sym, ap, IsTrue}
use Rattle.modular_reduced.proofs.FormLemmas.{form_of_value}
use Rattle.modular_reduced.proofs.PowerForms.{base_represents_first_power, power_of_two}
use Rattle.modular_reduced.proofs.PowerCounts.{steps, first_power_needs_no_products, products_of_two, products_else}
use Rattle.modular_reduced.proofs.PowerCounts.{products_at_most}
use Rattle.modular_reduced.specs.Powers.{products, digits, digits_within}
use Rattle.modular_reduced.proofs.power.pow_counted.Goals as goal
use Rattle.modular_reduced.proofs.power.pow_counted.Goals.{then-eq-2+else-not-is_odd, else-eq-2}

pub returns-then-eq : goal.returns-then-eq
returns-then-eq g c =
    let canonical = g.met.R.Reducer.canonical c.args.reducer.now in
    let same : IsTrue (g.T.PartialEq.eq c.args.exp.now c.one.result) = search rules in
    let one = (g.met.T.RingWord.equal c.args.exp.now c.one.result).0 same ∙ c.one.ensures in
    let power = base_represents_first_power c.requires one in
    record {
      power = power;
      checked = c.requires;
      value = canonical.one_value _ _ power;
      count = sym (first_power_needs_no_products (g.T.RingWord.number c.args.exp.now) one);
      at_most = omega arith;
    }

pub returns-then-not-is_odd : goal.returns-then-not-is_odd
unfolding digits digits_within
returns-then-not-is_odd g c =
    let exp = g.T.RingWord.number c.args.exp.now in
    let same : IsTrue (g.T.PartialEq.eq c.half.result c.one-2.result) = search rules in
    let half : exp / 2 ≡ 1 =
    sym c.half.ensures.value ∙ (g.met.T.RingWord.equal c.half.result c.one-2.result).0 same ∙ c.one-2.ensures in
    let even : exp % 2 ≢ 1 = search rules in
    let two : exp ≡ 2 = omega arith in
    let power =
    power_of_two (g.R.Reducer.value (g.R.Reducer.modulus c.args.reducer.now) (g.T.RingWord.number c.args.base)) exp two
    c.sqr.ensures.form in
    let digit : digits exp ≡ 2 = ap digits two in
    record {
      power = power;
      checked = c.sqr.ensures.checked;
      value = (g.met.R.Reducer.canonical c.args.reducer.now).one_value _ _ power;
      count = sym (products_of_two exp two);
      at_most = omega (arith, digit);
    }

pub returns : goal.returns
returns g c =
    let exp = g.T.RingWord.number c.args.exp.now in
    let equal = g.met.T.RingWord.equal in
    let not_one : exp ≢ 1 = λ e.
    let same : IsTrue (g.T.PartialEq.eq c.args.exp.now c.one.result) =
    (equal c.args.exp.now c.one.result).1 (e ∙ sym c.one.ensures) in
    search rules in
    let not_two : exp ≢ 2 = elim c.if-eq-2.branch [
      | then-eq-2+else-not-is_odd w ↦
          let odd : exp % 2 ≡ 1 = search rules in
          λ e. omega arith
      | else-eq-2 w ↦ λ e.
          let half : exp / 2 ≡ 1 = omega arith in
          let same : IsTrue (g.T.PartialEq.eq c.half.result c.one-2.result) =
          (equal c.half.result c.one-2.result).1 (c.half.ensures.value ∙ half ∙ sym c.one-2.ensures) in
          search rules
    ] in
    let count : products exp ≡ steps exp = products_else exp not_one not_two in
    let most = products_at_most exp in
    let canonical = g.met.R.Reducer.canonical c.args.reducer.now in
    record {
      power = c.binary_power.ensures.power;
      checked = form_of_value canonical c.binary_power.ensures.power;
      value = canonical.one_value _ _ c.binary_power.ensures.power;
      count = c.binary_power.ensures.count ∙ sym count;
      at_most = omega (arith, c.binary_power.ensures.count);
    }
