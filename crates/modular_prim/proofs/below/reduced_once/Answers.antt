use Rattle.std.proofs.Common.{◌≤◌, arith, sym}
use Rattle.std.proofs.Math.Nat.{mod-eq_of_lt}
use Rattle.modular_prim.proofs.ResidueSteps.{IsWrapped}
use Rattle.modular_prim.proofs.below.reduced_once.Goals as goal
use Rattle.modular_prim.proofs.below.reduced_once.Goals.{After-wrapping_sub-less}

-- what the word is when m is taken from it
difference_is_wrapped : (g : _) (c : After-wrapping_sub-less g)
    → IsWrapped (g.T.RingWord.number c.args.m) (g.T.RingWord.number c.args.x)
    (g.T.RingWord.number c.wrapping_sub-less.result)
difference_is_wrapped g c = grind arith

pub returns-else-is_below : goal.returns-else-is_below
returns-else-is_below g c =
    let n = g.T.RingWord.number in
    let less = (difference_is_wrapped g (goal.at.returns-else-is_below g c).After-wrapping_sub-less).left
    (let more : n c.args.x ≤ n c.wrapping_sub-less.result = grind arith in more) in
    record { value = sym (mod-eq_of_lt less); below = less }
