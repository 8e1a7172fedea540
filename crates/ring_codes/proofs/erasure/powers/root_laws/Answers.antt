use Rattle.ring_codes.proofs.RootPowers.{powers_fit, encoding_by_transform}
use Rattle.ring_codes.proofs.erasure.powers.root_laws.Goals as goal

pub returns : goal.returns
returns c = record { fit = powers_fit; transform = encoding_by_transform }
