use Rattle.std.proofs.Common.{◌%◌, ◌↔◌, IsTrue}
use Rattle.modular_reduced.specs.Integers.{modulus_of, residue_of}
use Rattle.modular_word.specs.Inverses.{HasInverse}
use Rattle.modular_ring.specs.SystemLaws.{inversion_tells}
use Rattle.modular_ring.proofs.residues.has_inverse.Goals as goal

pub returns : goal.returns
returns c =
    let m = c.args.m in
    let tells = inversion_tells modulus_of residue_of (modulus_of c.new.result)
    (residue_of c.new.result) c.inv.result c.is_some.result c.inv.ensures c.is_some.ensures in
    let residues : IsTrue c.is_some.result ↔ HasInverse m (c.args.n % m % m) =
    rw (c.new.ensures.modulus, c.new.ensures.residue) at tells in
    let once = c.inverse_laws.ensures.has_residue m (c.args.n % m) in
    let twice = c.inverse_laws.ensures.has_residue m c.args.n in
    ((λ b. twice.0 (once.0 (residues.0 b))), λ unit. residues.1 (once.1 (twice.1 unit)))
