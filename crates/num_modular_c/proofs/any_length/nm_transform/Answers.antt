use Rattle.std.proofs.Common.{refl, arith}
use Rattle.num_modular_c.proofs.any_length.nm_transform.Goals as goal

pub transform_once-requires-else-n-lt-LEAST_TRANSFORMED-clause-fits :
    goal.transform_once-requires-else-n-lt-LEAST_TRANSFORMED-clause-fits
transform_once-requires-else-n-lt-LEAST_TRANSFORMED-clause-fits c =
    let is = c.if-not-fits.ensures.0 refl in
    record { modulus = is.modulus; equal = is.equal; room = c.table_length-table.ensures.room _ _ is.room }

pub transform_once-requires-else-n-lt-LEAST_TRANSFORMED-clause-room :
    goal.transform_once-requires-else-n-lt-LEAST_TRANSFORMED-clause-room
transform_once-requires-else-n-lt-LEAST_TRANSFORMED-clause-room c =
    let within = c.table_length-table.ensures.within _ _ (c.if-not-fits.ensures.0 refl).room
    c.if-n-lt-LEAST_TRANSFORMED.false in
    omega (arith, within)
