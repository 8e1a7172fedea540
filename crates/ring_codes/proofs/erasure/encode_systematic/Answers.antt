use Rattle.ring_codes.proofs.Names.{arith}
use Rattle.ring_codes.proofs.erasure.encode_systematic.Goals as goal

pub returns-clause-encoding : goal.returns-clause-encoding
returns-clause-encoding g c t = grind arith

pub returns-clause-systematic : goal.returns-clause-systematic
returns-clause-systematic g c t i l = grind arith
