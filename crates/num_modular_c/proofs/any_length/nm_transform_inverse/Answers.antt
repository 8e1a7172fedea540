use Rattle.std.proofs.Common.{refl, arith}
use Rattle.num_modular_c.proofs.any_length.nm_transform_inverse.Goals as goal

pub invert_once-requires-else-n-lt-LEAST_TRANSFORMED-clause-fits :
    goal.invert_once-requires-else-n-lt-LEAST_TRANSFORMED-clause-fits
invert_once-requires-else-n-lt-LEAST_TRANSFORMED-clause-fits c =
    let is = c.if-not-fits.ensures.0 refl in
    record { modulus = is.modulus; equal = is.equal; room = c.table_length-table.ensures.room _ _ is.room }

pub invert_once-requires-else-n-lt-LEAST_TRANSFORMED-clause-room :
    goal.invert_once-requires-else-n-lt-LEAST_TRANSFORMED-clause-room
invert_once-requires-else-n-lt-LEAST_TRANSFORMED-clause-room c =
    let within = c.table_length-table.ensures.within _ _ (c.if-not-fits.ensures.0 refl).room
    c.if-n-lt-LEAST_TRANSFORMED.false in
    omega (arith, within)
