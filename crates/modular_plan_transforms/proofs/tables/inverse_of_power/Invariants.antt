use Rattle.std.proofs.Common.{◌^◌}
use Rattle.modular_word.specs.Inverses.{IsInverse}
use Rattle.modular_plan_transforms.proofs.tables.inverse_of_power.Given as goal

-- 1, halved t times
abbrev pub invariant-halvings : goal.invariant-halvings
invariant-halvings g l = IsInverse (g.T.RingWord.number l.m.modulus) (2 ^ l._done) (g.T.RingWord.number l.part)
