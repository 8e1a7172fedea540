use Rattle.std.proofs.Common.{refl, arith}
use Rattle.std.proofs.lemmas.Bool.{false≢true}
use Rattle.num_modular_c.proofs.any_length.fits.Goals as goal
use Rattle.num_modular_c.proofs.any_length.fits.Goals.{then-needed-words-via-then-needed-words}
use Rattle.num_modular_c.proofs.any_length.fits.Goals.{then-needed-words-via-else-needed-words+then-factors-table}

pub returns-then-needed-words : goal.returns-then-needed-words
returns-then-needed-words c = (
  λ t. absurd (false≢true t),
  λ is.
      let room = (c.room-needed.ensures c.args.words c.args.table).0 is.room in
      elim c.then-needed-words.branch [
        | then-needed-words-via-then-needed-words w ↦ absurd (omega (arith, room.0, w.if-needed-words.true))
        | then-needed-words-via-else-needed-words+then-factors-table w ↦
            absurd (omega (arith, room.1, w.if-factors-table.true))
      ],
)

pub returns : goal.returns
returns c = (
  λ t. record {
    modulus = omega arith;
    equal = omega arith;
    room = (c.room-needed.ensures c.args.words c.args.table).1
        (c.if-needed-words.false, c.if-factors-table.false);
  },
  λ is. refl,
)
