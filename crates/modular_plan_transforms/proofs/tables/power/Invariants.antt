use Rattle.std.proofs.Common.{◌≡◌, ◌%◌, ◌^◌}
use Rattle.modular_plan_transforms.proofs.tables.power.Given as goal

-- g to the power of 2^t
abbrev pub invariant-squares : goal.invariant-squares
invariant-squares g l =
    let m = g.T.RingWord.number l.m.modulus in
    g.T.RingWord.number l.power ≡ g.T.RingWord.number l.fn.g ^ (2 ^ l._done) % m
