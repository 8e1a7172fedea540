use Rattle.num_modular.specs.Callers.{◌≡◌, ◌≢◌, ◌<◌, ◌+◌, ◌∙◌, sym, arith, inl, inr, length, entry_written}
use Rattle.num_modular.specs.Callers.{entry_kept, entry_read}
use Rattle.std.proofs.Common.{slice_index}
use Rattle.std.proofs.Math.ListN.{length-set}
use Rattle.std.proofs.lemmas.Bool.{cases_eq, false≢true}
use Rattle.num_modular.specs.Plans.{numbers}
use Rattle.ring_codes.proofs.Singleton.{value_or_none}
use Rattle.ring_codes.specs.Erasure.{ArePlaces}
use Rattle.ring_erasures.proofs.ErasedPlaces.{scattered_none, scattered_more}
use Rattle.ring_erasures.proofs.places.check_places.Goals as goal

pub marks-preserved : goal.marks-preserved
marks-preserved g c p l =
    let number = g.T.RingWord.number in let marks = c.marks.marks in let i = c.marks.i in elim (cases_eq p i) [
      | inl e ↦ rw e (entry_written number (λ k x. x) 0 marks i _ (omega arith) ∙ c.zero.ensures)
      | inr other ↦ entry_kept number (λ k x. x) 0 marks i p _ other ∙ c.marks.invariant p (omega arith)
    ]

pub places-init : goal.places-init
places-init g c = (
  record { enough = omega arith; within = λ i l. absurd (omega arith); distinct = λ i j l b. absurd (omega arith) },
  scattered_none c.args.lost.now _ _,
)

pub returns-then-not-is_zero_word : goal.returns-then-not-is_zero_word
returns-then-not-is_zero_word g c m root =
    let marks = c.places.marks in let i = c.places.i in let (are, marked) = c.places.invariant in
    let place = slice_index c.args.lost.now i in let below : place < length marks = omega arith in
    let read = entry_read g.T.RingWord.number (λ k x. x) 0 marks place _ below c.index-marks-place.is in
    elim (value_or_none i place (slice_index c.args.lost.now)) [
      | inl (j, before, same) ↦
          (j, i, before, omega arith, omega arith, rw (c.places.auto.marks, c.marks.auto.marks) at are, same)
      | inr none ↦ absurd (false≢true (sym c.if-not-is_zero_word.true ∙ c.is_zero_word.ensures.zero.1
          (read ∙ marked.kept place none ∙ c.marks.invariant place (omega arith))))
    ]

pub places-preserved : goal.places-preserved
places-preserved g c =
    let number = g.T.RingWord.number in let marks = c.places.marks in let i = c.places.i in
    let lost = c.args.lost.now in let (are, marked) = c.places.invariant in let place = slice_index lost i in
    let below : place < length marks = omega arith in let none : numbers number marks place ≡ 0 =
    sym (entry_read number (λ k x. x) 0 marks place _ below c.index-marks-place.is)
    ∙ c.is_zero_word.ensures.zero.0 c.if-not-is_zero_word.false in
    let more : ArePlaces (i + 1) (length marks) lost = record {
      enough = omega arith;
      within = λ a l. elim (cases_eq a i) [ inl e ↦ rw e below | inr other ↦ are.within a (omega arith) ];
      distinct = λ a b l d. elim (cases_eq b i) [
        | inl e ↦ λ same. let one = marked.there a (omega arith) in omega (arith, one, rw (← e, ← same) at none)
        | inr other ↦ are.distinct a b l (omega arith)
      ];
    } in (
      rw (length-set marks place c.one.result) more,
      scattered_more number (λ k x. x) 0 i (i + 1) lost _ _ marks c.one.result more (omega arith) marked c.one.ensures,
    )
