use Rattle.std.proofs.Common.{arith}
use Rattle.modular_transform.proofs.ConvolveLemmas.{doubled_more}
use Rattle.modular_transform.proofs.inverse.length_form.Goals as goal

pub doublings-preserved : goal.doublings-preserved
doublings-preserved g c = search (arith, doubled_more)
