use Rattle.std.proofs.Common.{◌≡◌, ◌+◌, ◌*◌, ◌∙◌, arith}
use Rattle.std.proofs.lemmas.Bool.{false≢true}
use Rattle.std.proofs.Math.Nat.{add-mod_right, mod-eq_of_lt}
use Rattle.modular_plan_transforms.proofs.tables.halved.Goals as goal

pub returns-then-is_odd-clause-twice : goal.returns-then-is_odd-clause-twice
returns-then-is_odd-clause-twice g c =
    let n = g.T.RingWord.number in
    let m = n c.args.m.now.modulus in
    let odd = c.is_odd.ensures.odd.0 c.if-is_odd.true in
    let whole : 2 * n c.half.result ≡ n c.args.x + m =
    omega (arith, c.half.ensures.value, c.plus.ensures, odd, c.requires.odd) in
    rw whole (add-mod_right (n c.args.x) m ∙ mod-eq_of_lt c.requires.below)

pub returns-else-is_odd-clause-twice : goal.returns-else-is_odd-clause-twice
returns-else-is_odd-clause-twice g c = search (arith, false≢true, mod-eq_of_lt)
