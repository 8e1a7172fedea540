use Rattle.std.proofs.Common.{◌∙◌, sym, refl, arith}
use Rattle.num_modular_c.proofs.erasure.corrected.Goals as goal

pub returns-in-Ok-clause-ok : goal.returns-in-Ok-clause-ok
returns-in-Ok-clause-ok g c ok =
    let points = c.load_from.auto.forms ∙ c.split_at_mut-xs.ensures.front_len in
    let right = c.in-Ok.ensures in
    rw (
      ← c.split_at_mut-forms.ensures.front_len,
      ← points,
      ← c.load_from.ensures.values,
      ← c.load_from-2.ensures.values,
      c.unload_from.ensures,
      c.unload_from-in-Ok.ensures,
    ) (
      right.fit,
      refl,
      record {
        encoding = right.encoding;
        errors = right.count;
        few = right.few;
        only_word = λ sent other is near. (right.only sent other is near).0;
        only_message = λ sent other is near. (right.only sent other is near).1;
      },
    )

pub returns-in-Err-clause-failure : goal.returns-in-Err-clause-failure
returns-in-Err-clause-failure g c bad =
    let points = c.load_from.auto.forms ∙ c.split_at_mut-xs.ensures.front_len in (
      record {
        error = c.in-Err.error;
        code_is = c.correct_code.ensures.code;
        reason = rw (
          ← c.split_at_mut-forms.ensures.front_len,
          ← points,
          ← c.load_from.ensures.values,
          ← c.load_from-2.ensures.values,
        ) c.in-Err.ensures;
        number = c.correct_code.ensures.number;
      },
      refl,
      refl,
      refl,
    )

pub split_at_mut-ys-requires : goal.split_at_mut-ys-requires
split_at_mut-ys-requires g c = omega (arith, c.requires.scratch, c.split_at_mut-xs.ensures.back_len)

pub split_at_mut-forms-requires : goal.split_at_mut-forms-requires
split_at_mut-forms-requires g c =
    omega (arith, c.requires.scratch, c.split_at_mut-xs.ensures.back_len, c.split_at_mut-ys.ensures.back_len)

pub split_at_mut-word_forms-requires : goal.split_at_mut-word_forms-requires
split_at_mut-word_forms-requires g c =
    omega (
      arith,
      c.requires.scratch,
      c.split_at_mut-xs.ensures.back_len,
      c.split_at_mut-ys.ensures.back_len,
      c.split_at_mut-forms.ensures.back_len,
    )

pub correct-requires-clause-scratch : goal.correct-requires-clause-scratch
correct-requires-clause-scratch g c =
    omega (
      arith,
      c.requires.scratch,
      c.split_at_mut-xs.ensures.back_len,
      c.split_at_mut-ys.ensures.back_len,
      c.split_at_mut-forms.ensures.back_len,
      c.split_at_mut-word_forms.ensures.back_len,
      c.split_at_mut-forms.ensures.front_len,
    )

pub correct-requires-clause-room : goal.correct-requires-clause-room
correct-requires-clause-room g c =
    c.split_at_mut-word_forms.ensures.front_len ∙ sym (c.load_from.auto.forms ∙ c.split_at_mut-xs.ensures.front_len)

pub unload_from-requires-in-Ok-clause-room : goal.unload_from-requires-in-Ok-clause-room
unload_from-requires-in-Ok-clause-room g c =
    c.requires.word ∙ sym (c.correct.auto.word ∙ c.split_at_mut-word_forms.ensures.front_len)
