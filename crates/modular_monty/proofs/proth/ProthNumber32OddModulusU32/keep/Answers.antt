use Rattle.std.proofs.Common.{◌^◌, arith, lit≤, refl}
use Rattle.modular_monty.proofs.KnownModuli.{odd_modulus}
use Rattle.modular_monty.proofs.ProthModuli.{proth_odd}
use Rattle.modular_monty.proofs.proth.ProthNumber32OddModulusU32.keep.Goals as goal

pub invariant_of-result : goal.invariant_of-result
invariant_of-result g c =
    let range = c.requires.range in
    record {
      range = range;
      ring =
          odd_modulus 32 (2 ^ 32) _ refl (lit≤ tt) (proth_odd (record { range = range; same = refl }))
          (omega (arith, range.at_most));
    }
