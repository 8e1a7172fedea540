use Rattle.num_modular.specs.Callers.{ℕ, ◌+◌, ◌*◌, ◌-◌, ◌≤◌, arith, length, ◌/◌, ◌≡◌}
use Rattle.std.proofs.lemmas.Result.{IfOk-weaker}
use Rattle.std.proofs.Common.{take, length-take-le}
use Rattle.ring_correction.proofs.NearPairs.{distance_taken}
use Rattle.ring_correction.proofs.search.decode.Goals as goal

pub returns-in-Ok-clause-message : goal.returns-in-Ok-clause-message
returns-in-Ok-clause-message g c =
    let ring = g.R.Reducer in let m = ring.modulus c.args.r.now in let number = g.T.RingWord.number in
    let s = length c.args.points.now in let k = length c.args.message.now in let half : ℕ = (s - k) / 2 in
    let d : ℕ = half + 1 in let count : ℕ = k + 2 * half in
    let low : 2 * half ≤ s - k = omega arith in let high : s - k ≤ 2 * half + 1 = omega arith in
    let weights = c.in-Ok.ensures.weights in let few = c.requires.few in
    let within : count ≤ s = omega (arith, few, low) in
    let long : length (take count c.args.points.now) ≡ count = length-take-le count c.args.points.now within in
    let first = c.split_at_mut-first.ensures.front_len in let second = c.split_at_mut-second.ensures.front_len in
    let pairs = c.in-Ok.ensures.pairs d (omega (arith, first)) in
    IfOk-weaker c.divide_lighter.result _ _
    (λ b h sent near.
    let front = distance_taken number ring.value m count k c.args.points.now c.args.symbols.now sent within
    c.requires.pairs in
    h d _ sent (omega (arith, c.solve.auto.first, first)) (omega (arith, c.solve.auto.second, second))
    (omega arith) (omega arith) (omega (arith, long)) (omega (arith, weights, long)) pairs
    (omega (arith, near, front, high, long)))
    c.divide_lighter.ensures.message
