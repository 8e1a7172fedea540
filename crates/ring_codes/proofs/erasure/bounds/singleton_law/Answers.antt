use Rattle.ring_codes.proofs.Singleton.{singleton_bound}
use Rattle.ring_codes.proofs.erasure.bounds.singleton_law.Goals as goal

pub returns : goal.returns
returns c = singleton_bound
