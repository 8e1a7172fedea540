use Rattle.std.proofs.Common.{◌*◌, ◌<◌, refl, sym, subst, below_more}
use Rattle.std.proofs.lemmas.Bool.{false≢true}
use Rattle.std.proofs.lemmas.Grind.{get_or_default_zero}
use Rattle.num_modular_c.proofs.planned.have_room.Goals as goal

pub returns-then-not-has_room : goal.returns-then-not-has_room
returns-then-not-has_room c = (
  λ t. absurd (false≢true t),
  λ all. c.if-not-has_room.ensures.1 (all c.words.place 0 c.words-test.true),
)

pub words-preserved : goal.words-preserved
words-preserved c =
    let bound = 4 * c.args.m.now.modulus in
    below_more _ _ c.words.invariant (λ d. subst (λ x. x < bound)
    (sym (get_or_default_zero c.args.words.now c.words.place d c.words-test.true)) (c.if-not-has_room.ensures.0 refl))
