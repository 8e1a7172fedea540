use Rattle.ring_codes.proofs.Secrecy.{perfectly_secret_of_fit}
use Rattle.ring_codes.proofs.erasure.secrets.secrecy_laws.Goals as goal

pub returns : goal.returns
returns c = perfectly_secret_of_fit
