use Rattle.std.proofs.Common.{◌∙◌, refl, sym}
use Rattle.std.proofs.lemmas.Bool.{false≢true, eqb-true}
use Rattle.num_modular_c.proofs.planned.is_pair.Goals as goal
use Rattle.num_modular_c.proofs.planned.is_pair.Goals.{then-xs-ys, else-xs-ys, then-convolves, else-convolves}

pub returns-then-not-admits : goal.returns-then-not-admits
returns-then-not-admits c =
    (λ t. absurd (false≢true t), λ pair. absurd (false≢true (c.if-not-admits.ensures.1 pair.admitted)))

pub returns-then-have_room : goal.returns-then-have_room
returns-then-have_room c = elim c.if-convolves.branch [
  | then-convolves w ↦ elim c.if-xs-ys.branch [
    | then-xs-ys v ↦
        let convolves = v.convolves.ensures.0 (sym v.value-is ∙ w.if-convolves.true) in
        let room = w.have_room.ensures.0 (sym w.value-is ∙ c.if-have_room.true) in (
          λ t. record {
            admitted = c.if-not-admits.ensures.0 refl;
            room = rw c.new-modulus.ensures at room;
            other_room = rw c.new-modulus.ensures at (c.have_room-then-have_room.ensures.0 t);
            equal = sym v.if-xs-ys.true;
            blocks = convolves;
          },
          λ pair. c.have_room-then-have_room.ensures.1 (rw c.new-modulus.ensures pair.other_room),
        )
    | else-xs-ys v ↦ absurd (v.if-xs-ys.false (eqb-true _ _ (sym v.value-is ∙ w.if-convolves.true)))
  ]
  | else-convolves w ↦ absurd (false≢true (sym w.if-convolves.false ∙ sym w.value-is ∙ c.if-have_room.true))
]

pub returns-else-have_room : goal.returns-else-have_room
returns-else-have_room c = (
  λ t. absurd (false≢true (sym c.if-have_room.false ∙ t)),
  λ pair. elim c.if-convolves.branch [
    | then-convolves w ↦ absurd (false≢true (sym c.if-have_room.false ∙ w.value-is
        ∙ w.have_room.ensures.1 (rw c.new-modulus.ensures pair.room)))
    | else-convolves w ↦ elim c.if-xs-ys.branch [
      | then-xs-ys v ↦ absurd (false≢true (sym w.if-convolves.false ∙ v.value-is ∙ v.convolves.ensures.1 pair.blocks))
      | else-xs-ys v ↦ absurd (v.if-xs-ys.false (sym pair.equal))
    ]
  ],
)
