use Rattle.std.proofs.Common.{◌∙◌, sym, refl, arith}
use Rattle.std.proofs.lemmas.Bool.{false≢true}
use Rattle.num_modular_c.proofs.erasure.restored.Goals as goal

pub returns-in-Ok-clause-failure : goal.returns-in-Ok-clause-failure
returns-in-Ok-clause-failure g c none =
    let points = c.load_from.auto.forms ∙ c.split_at_mut-xs.ensures.front_len in
    absurd (none (rw (← c.split_at_mut-forms.ensures.front_len, ← points, ← c.load_from.ensures.values)
    (c.in-Ok.ensures.accepted.0 refl)))

pub returns-in-Ok-clause-did : goal.returns-in-Ok-clause-did
returns-in-Ok-clause-did g c placed =
    let points = c.load_from.auto.forms ∙ c.split_at_mut-xs.ensures.front_len in (
      refl,
      rw (
        ← c.split_at_mut-forms.ensures.front_len,
        ← points,
        ← c.load_from.ensures.values,
        ← c.load_from-2.ensures.values,
        c.unload_from.ensures,
      )
          (record { symbols = c.in-Ok.ensures.symbols refl; original = c.in-Ok.ensures.original refl }),
    )

pub returns-in-Err-clause-did : goal.returns-in-Err-clause-did
returns-in-Err-clause-did g c placed =
    let points = c.load_from.auto.forms ∙ c.split_at_mut-xs.ensures.front_len in
    absurd (false≢true (c.in-Err.ensures.accepted.1
    (rw (c.split_at_mut-forms.ensures.front_len, points, c.load_from.ensures.values) placed)))

pub returns-in-Err-clause-failure : goal.returns-in-Err-clause-failure
returns-in-Err-clause-failure g c none =
    let points = c.load_from.auto.forms ∙ c.split_at_mut-xs.ensures.front_len in
    record {
      error = c.in-Err.error;
      code_is = c.restore_code.ensures.code;
      reason = rw (← c.split_at_mut-forms.ensures.front_len, ← points, ← c.load_from.ensures.values)
          c.in-Err.ensures.fault;
      unchanged = refl;
    }

pub split_at_mut-chosen-requires : goal.split_at_mut-chosen-requires
split_at_mut-chosen-requires g c =
    omega (arith, c.requires.scratch, c.split_at_mut-xs.ensures.back_len, c.split_at_mut-ys.ensures.back_len)

pub split_at_mut-weights-requires : goal.split_at_mut-weights-requires
split_at_mut-weights-requires g c =
    omega (
      arith,
      c.requires.scratch,
      c.split_at_mut-xs.ensures.back_len,
      c.split_at_mut-ys.ensures.back_len,
      c.split_at_mut-chosen.ensures.back_len,
    )

pub split_at_mut-forms-requires : goal.split_at_mut-forms-requires
split_at_mut-forms-requires g c =
    omega (
      arith,
      c.requires.scratch,
      c.split_at_mut-xs.ensures.back_len,
      c.split_at_mut-ys.ensures.back_len,
      c.split_at_mut-chosen.ensures.back_len,
      c.split_at_mut-weights.ensures.back_len,
    )

pub restore-requires-clause-chosen : goal.restore-requires-clause-chosen
restore-requires-clause-chosen g c =
    c.split_at_mut-chosen.ensures.front_len ∙ sym c.split_at_mut-forms.ensures.front_len

pub restore-requires-clause-weights : goal.restore-requires-clause-weights
restore-requires-clause-weights g c =
    c.split_at_mut-weights.ensures.front_len ∙ sym c.split_at_mut-forms.ensures.front_len
