use Rattle.std.proofs.Common.{arith}
use Rattle.modular_transform.proofs.TransformBack.{stepped_back}
use Rattle.modular_transform.proofs.inverse.transform_back.Goals as goal

pub returns-clause-entries : goal.returns-clause-entries
returns-clause-entries g c =
    stepped_back _ _ _ _ _ _ _ _ _ _ _ (g.met.R.Reducer.canonical c.args.r.now) (omega arith) (omega arith)
    (omega arith) c.ntt.ensures.entries c.mirror.ensures c.scale_list.ensures.entries
