use Rattle.std.proofs.Common.{◌^◌}
use Rattle.num_modular.specs.Callers.{ℕ, ◌-◌, ◌*◌, ◌/◌, ◌%◌, ◌<◌, ◌≤◌, arith, length, entry, entry_read}
use Rattle.num_modular.specs.Callers.{held_read, values_below}
use Rattle.ring_decoder.proofs.CheckTables.{check_first, check_later}
use Rattle.ring_decoder.proofs.checks.next_check.Goals as goal

pub returns-then-h-eq0-clause-value : goal.returns-then-h-eq0-clause-value
returns-then-h-eq0-clause-value g c =
    let ring = g.R.Reducer in let m = ring.modulus c.args.r.now in let number = g.T.RingWord.number in
    let i = c.args.i in let weights = c.args.weights.now in
    let column : i < length weights = omega (arith, c.requires.column, c.requires.each_weight) in
    check_first m c.args.h _ _ (entry number ring.value m c.args.points.now i) c.if-h-eq0.true
    (entry_read number ring.value m weights i _ column c.index-weights-i.is)
    (values_below number ring.form ring.value m weights i c.requires.weights column)

pub returns-else-h-eq0-clause-value : goal.returns-else-h-eq0-clause-value
returns-else-h-eq0-clause-value g c =
    let ring = g.R.Reducer in let m = ring.modulus c.args.r.now in let number = g.T.RingWord.number in
    let n : ℕ = length c.args.points.now in let i = c.args.i in let next = c.args.next in
    let x = entry number ring.value m c.args.points.now in let v = entry number ring.value m c.args.weights.now in
    let above : n ≤ next = c.requires.above c.if-h-eq0.false in let column = c.requires.column in
    let held = held_read number ring.form ring.value m c.args.checks.now (next - n) next _
    (λ e. (v (e % n) * x (e % n) ^ (e / n)) % m) c.requires.before (omega (arith, above, column)) c.index-checks-next.is
    in
    check_later m n c.args.h i next _ _ _ x v c.if-h-eq0.false column c.requires.at held.same
    (entry_read number ring.value m c.args.points.now i _ column c.index-points-i.is) c.mul.ensures.value

pub mul-requires-clause-left : goal.mul-requires-clause-left
mul-requires-clause-left g c =
    let ring = g.R.Reducer in let m = ring.modulus c.args.r.now in let number = g.T.RingWord.number in
    let n : ℕ = length c.args.points.now in let next = c.args.next in
    let x = entry number ring.value m c.args.points.now in let v = entry number ring.value m c.args.weights.now in
    let above : n ≤ next = c.requires.above c.if-h-eq0.false in let column = c.requires.column in
    (held_read number ring.form ring.value m c.args.checks.now (next - n) next _
    (λ e. (v (e % n) * x (e % n) ^ (e / n)) % m) c.requires.before (omega (arith, above, column))
    c.index-checks-next.is).checked
