use Rattle.std.proofs.Common.{arith}
use Rattle.std.proofs.Math.Nat.{div-lt_iff_lt-mul}
use Rattle.std.proofs.lemmas.Bool.{eq-eqb, eqb-true}
use Rattle.std.proofs.lemmas.Nat.{pow_pos}
use Rattle.num_modular_c.proofs.secrets.has_digits.Goals as goal

pub returns-else-bits-eq64 : goal.returns-else-bits-eq64
returns-else-bits-eq64 c =
    let below = div-lt_iff_lt-mul {x = c.args.exponent} {y = 1} (pow_pos c.args.bits) in (
      λ t. let none = eqb-true _ _ t in omega (arith, below.0 (omega (arith, none))),
      λ l. eq-eqb _ _ (let least = below.1 (omega (arith, l)) in omega (arith, least)),
    )
