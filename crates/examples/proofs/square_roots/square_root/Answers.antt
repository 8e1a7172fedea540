use Rattle.std.proofs.Common.{◌≡◌, ◌+◌, ◌/◌, arith}
use Rattle.num_modular.specs.Remainders.{remainders}
use Rattle.examples.proofs.square_roots.square_root.Goals as goal

pub returns-else-sqm-a : goal.returns-else-sqm-a
returns-else-sqm-a c x is =
    let quarter : c.args.p / 4 + 1 ≡ (c.args.p + 1) / 4 = omega (arith, c.requires.three) in
    let root = c.prime_power_laws.ensures.root c.args.a c.args.p x c.requires.three c.requires.prime is in
    absurd (c.if-sqm-a.false (simp (remainders, c.sqm.ensures, c.powm-root.ensures, quarter, root)))
