use Rattle.std.proofs.Common.{◌++◌, take, get_or, ◌∙◌, ap, sym, append_assoc}
use Rattle.std.specs.List.{flat_map}
use Rattle.check_digits.specs.Ibans.{digits_of}
use Rattle.check_digits.proofs.Ibans.{more_digits, room_next}
use Rattle.check_digits.proofs.iban.write_text.Goals as goal

pub characters-preserved : goal.characters-preserved
characters-preserved c =
    let kept = take c.args.start c.args.digits.now in
    let i = c.characters.c-index in let text = c.args.text.now in
    record {
      room = room_next _ _ _ _ c.characters.invariant.room c.write_character-end.ensures.room;
      same = c.write_character-end.ensures.length ∙ c.characters.invariant.same;
      digits = c.write_character-end.ensures.digits
          ∙ ap (λ xs. xs ++ digits_of (get_or text i 0)) c.characters.invariant.digits
          ∙ append_assoc kept (flat_map digits_of (take i text)) (digits_of (get_or text i 0))
          ∙ ap (λ xs. kept ++ xs) (sym (more_digits digits_of text i c.characters-test.true));
    }
