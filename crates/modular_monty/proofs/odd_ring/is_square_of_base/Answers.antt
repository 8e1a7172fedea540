use Rattle.std.proofs.Common.{◌≡◌, ◌<◌, ap, sym, ◌∙◌, ◌%◌}
use Rattle.std.proofs.lemmas.Bool.{false≢true}
use Rattle.modular_monty.proofs.SquareTests.{base_above_is_positive, double_word_is_low_word, residue_below_odd_modulus}
use Rattle.modular_monty.proofs.SquareTests.{square_of_unit, square_modulo_one, modulus_is_one}
use Rattle.modular_monty.proofs.odd_ring.is_square_of_base.Goals as goal
use Rattle.modular_monty.proofs.odd_ring.is_square_of_base.Goals.{After-redc-unit}

-- the arguments of the lemmas
base_is_positive : (g : _) (c : After-redc-unit g) → 0 < g.T.PathWord.base
base_is_positive g c = base_above_is_positive c.is_below.ensures.fits

square_below_modulus : (g : _) (c : After-redc-unit g) → g.T.RingWord.number c.args.square < g.T.RingWord.number
    c.args.m
square_below_modulus g c = c.is_below.ensures.below.0 c.if-not-is_below.false

first_double_word_is_square : (g : _) (c : After-redc-unit g)
    → g.T.PathWord.double_number c.merge.result ≡ g.T.RingWord.number c.args.square
first_double_word_is_square g c = double_word_is_low_word _ c.merge.ensures.value c.zero.ensures

second_double_word_is_reduction : (g : _) (c : After-redc-unit g)
    → g.T.PathWord.double_number c.merge-2.result ≡ g.T.RingWord.number c.redc-base.result
second_double_word_is_reduction g c = double_word_is_low_word _ c.merge-2.ensures.value c.zero-2.ensures

pub returns-then-not-is_below : goal.returns-then-not-is_below
returns-then-not-is_below g c = (
  λ told. absurd (false≢true told),
  λ e. sym c.if-not-is_below.true ∙ c.is_below.ensures.below.1 (residue_below_odd_modulus _ _ c.requires.odd e),
)

pub returns-then-is_one : goal.returns-then-is_one
returns-then-is_one g c =
    let d = (goal.at.returns-then-is_one g c).After-redc-unit in (
      λ _. square_of_unit (base_is_positive g d) c.requires.inverse (square_below_modulus g d)
          (first_double_word_is_square g d) c.redc-base.ensures (second_double_word_is_reduction g d)
          c.redc-unit.ensures (ap (λ v. v % g.T.RingWord.number c.args.m) (c.is_one.ensures.0 c.if-is_one.true)),
      λ _. c.if-is_one.true,
    )

pub returns-else-is_one : goal.returns-else-is_one
returns-else-is_one g c =
    let d = (goal.at.returns-else-is_one g c).After-redc-unit in
    let is = c.is_one-else-is_one.ensures in
    let no : g.T.RingWord.number c.redc-unit.result ≡ 1 → ⊥ =
    λ e. false≢true (sym c.if-is_one.false ∙ c.is_one.ensures.1 e) in (
      λ one. square_modulo_one (base_is_positive g d) c.requires.inverse (square_below_modulus g d)
          (first_double_word_is_square g d) c.redc-base.ensures
          (second_double_word_is_reduction g d) c.redc-unit.ensures (is.0 one),
      λ e. is.1 (modulus_is_one (base_is_positive g d) c.requires.inverse (square_below_modulus g d)
          (first_double_word_is_square g d) c.redc-base.ensures
          (second_double_word_is_reduction g d) c.redc-unit.ensures no e),
    )
