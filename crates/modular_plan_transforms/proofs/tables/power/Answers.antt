use Rattle.std.proofs.Common.{◌%◌, ◌^◌, ◌∙◌, ap, sym, arith}
use Rattle.std.proofs.Math.Nat.{mod-eq_of_lt}
use Rattle.modular_word.proofs.Powers.{pow-one}
use Rattle.modular_transform.proofs.PowersOfTwo.{power_by_zeros}
use Rattle.modular_plan_transforms.proofs.tables.power.Goals as goal

pub squares-init : goal.squares-init
squares-init g c = rw (pow-one (g.T.RingWord.number c.args.g)) (sym (mod-eq_of_lt c.requires.below))

pub returns : goal.returns
returns g c =
    let m = g.T.RingWord.number c.args.m.now.modulus in
    let root = g.T.RingWord.number c.args.g in
    let power = power_by_zeros c.args.count c.requires.power_of_two (omega arith) in
    c.squares.invariant ∙ ap (λ t. root ^ (2 ^ t) % m) (omega arith) ∙ ap (λ v. root ^ v % m) (sym power)
