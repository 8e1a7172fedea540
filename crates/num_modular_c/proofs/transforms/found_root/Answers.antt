use Rattle.std.proofs.Common.{◌∙◌, refl}
use Rattle.num_modular_c.proofs.transforms.found_root.Goals as goal

pub returns-in-Some-clause-did : goal.returns-in-Some-clause-did
returns-in-Some-clause-did g c some =
    let found = c.in-Some.ensures.1 in
    (refl, (found.0, found.1, found.2, c.residue.ensures.value ∙ found.3))
