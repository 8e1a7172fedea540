use Rattle.num_modular.specs.Callers.{◌+◌, ◌*◌, ◌<◌, arith}
use Rattle.std.proofs.lemmas.Result.{IfOk-weaker}
use Rattle.ring_correction.proofs.quotients.divide_lighter.Goals as goal

pub returns-then-pair_weights-clause-message : goal.returns-then-pair_weights-clause-message
returns-then-pair_weights-clause-message g c =
    IfOk-weaker c.divide_pair.result _ _ (λ b h d y sent whole other some lengths few room pairs near.
    let less = c.if-pair_weights.true in
    let small : 2 * c.args.pair_weights.0 < 2 * c.args.split = omega (arith, less, room) in
    h d _ y sent whole some lengths few small (pairs.first small) near) c.divide_pair.ensures.message

pub returns-else-pair_weights-clause-message : goal.returns-else-pair_weights-clause-message
returns-else-pair_weights-clause-message g c =
    let w = c.args.pair_weights in
    IfOk-weaker c.divide_pair-else-pair_weights.result _ _ (λ b h d y sent other whole some lengths few room pairs near.
    let less = c.if-pair_weights.false in let small : 2 * w.1 + 1 < 2 * c.args.split = omega (arith, less, room) in
    h d _ y sent whole some lengths few small (pairs.second small) near) c.divide_pair-else-pair_weights.ensures.message
