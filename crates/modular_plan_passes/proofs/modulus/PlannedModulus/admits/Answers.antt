use Rattle.std.proofs.Common.{◌≡◌, ◌≤◌, arith}
use Rattle.modular_plan_passes.proofs.FactorProducts.{part_of_power}
use Rattle.modular_plan_passes.proofs.modulus.PlannedModulus.admits.Goals as goal

pub returns-else-is_zero_word : goal.returns-else-is_zero_word
returns-else-is_zero_word g c =
    let n = g.T.RingWord.number in
    let part = part_of_power 2 g.T.RingWord.width g.T.PathWord.base (n c.part_of_base-greatest.result)
    g.met.T.PathWord.base_is (omega (arith, g.met.T.RingWord.width_from)) c.part_of_base-greatest.ensures in
    let other : n c.args.m ≡ 0 → ⊥ = λ z. let t = c.is_zero_word.ensures.zero.1 z in cc (t, c.if-is_zero_word.false) in
    let some : 1 ≤ n c.args.m = omega arith in
    grind (arith, part, some, c.is_below.ensures.below)
