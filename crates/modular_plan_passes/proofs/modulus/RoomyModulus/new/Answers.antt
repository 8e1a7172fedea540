use Rattle.std.proofs.Common.{◌%◌, ◌<◌, ◌≤◌, ap, ◌∙◌, arith}
use Rattle.modular_plan_passes.proofs.FactorProducts.{part_of_power}
use Rattle.modular_plan_passes.proofs.modulus.RoomyModulus.new.Goals as goal

pub invariant_of-result : goal.invariant_of-result
invariant_of-result g c =
    let m = g.T.RingWord.number c.args.planned.now.modulus in
    let part = part_of_power 4 g.T.RingWord.width g.T.PathWord.base (g.T.RingWord.number c.part_of_base-greatest.result)
    g.met.T.PathWord.base_is (omega (arith, g.met.T.RingWord.width_from)) c.part_of_base-greatest.ensures in
    let most : m ≤ g.T.RingWord.number c.part_of_base-greatest.result = grind arith in
    record {
      room = omega (arith, part, most);
      is_factor = c.factor-unit.ensures.factor;
      is_one = c.factor-unit.ensures.value ∙ c.residue.ensures ∙ ap (λ v. v % m) c.one.ensures;
    }

pub returns-then-is_below : goal.returns-then-is_below
returns-then-is_below g c =
    let n = g.T.RingWord.number in
    let part = part_of_power 4 g.T.RingWord.width g.T.PathWord.base (n c.part_of_base-greatest.result)
    g.met.T.PathWord.base_is (omega (arith, g.met.T.RingWord.width_from)) c.part_of_base-greatest.ensures in
    let above : n c.part_of_base-greatest.result < n c.args.planned.now.modulus = grind arith in
    omega (arith, part, above)
