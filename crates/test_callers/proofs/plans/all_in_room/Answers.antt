use Rattle.std.proofs.Common.{◌*◌, ◌<◌, arith, refl, subst, below_more}
use Rattle.std.proofs.lemmas.Bool.{false≢true}
use Rattle.std.proofs.lemmas.List.{get_or_read_under}
use Rattle.test_callers.proofs.plans.all_in_room.Goals as goal

pub entries-init : goal.entries-init
entries-init g c = λ k l. absurd (omega arith)

pub returns-then-not-has_room : goal.returns-then-not-has_room
returns-then-not-has_room g c = λ t. absurd (false≢true t)

pub entries-preserved : goal.entries-preserved
entries-preserved g c =
    let n = g.T.RingWord.number in
    let bound = 4 * n c.args.m.now.modulus in
    below_more _ _ c.entries.invariant (λ d. subst (λ x. n x < bound)
    (get_or_read_under _ _ _ _ d c.index-xs-i.is c.entries-test.true refl) (c.if-not-has_room.ensures.0 refl))

pub returns : goal.returns
returns g c = λ t k d l. c.entries.invariant k (omega arith) d
