use Rattle.std.proofs.Common.{◌∙◌, refl, sym}
use Rattle.std.proofs.lemmas.Bool.{false≢true}
use Rattle.num_modular_c.proofs.planned.is_split.Goals as goal
use Rattle.num_modular_c.proofs.planned.is_split.Goals.{then-admits, else-admits}

pub returns-then-splits : goal.returns-then-splits
returns-then-splits c = elim c.if-admits.branch [
  | then-admits w ↦
      let splits = w.splits.ensures.0 (sym w.value-is ∙ c.if-splits.true) in (
        λ t. record {
          admitted = w.if-admits.ensures.0 refl;
          room = rw c.new.ensures at (c.have_room.ensures.0 t);
          blocks = splits;
        },
        λ is. c.have_room.ensures.1 (rw c.new.ensures is.room),
      )
  | else-admits w ↦ absurd (false≢true (sym w.if-admits.false ∙ sym w.value-is ∙ c.if-splits.true))
]

pub returns-else-splits : goal.returns-else-splits
returns-else-splits c = (
  λ t. absurd (false≢true (sym c.if-splits.false ∙ t)),
  λ is. elim c.if-admits.branch [
    | then-admits w ↦ absurd (false≢true (sym c.if-splits.false ∙ w.value-is ∙ w.splits.ensures.1 is.blocks))
    | else-admits w ↦ absurd (false≢true (w.if-admits.ensures.1 is.admitted))
  ],
)
