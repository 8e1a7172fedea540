-- The double where it is below m, and the double less m where it isn't.
use Rattle.std.proofs.Common.{◌≡◌, ◌+◌, ◌-◌, ◌*◌, ◌%◌, ◌<◌, ◌≤◌, arith, ap, ◌∙◌, inl, inr}
use Rattle.std.proofs.Math.Nat.{mod-eq_of_lt, add-mod_right}
use Rattle.std.proofs.lemmas.Bool.{cases_lt}
use Rattle.modular_prim.proofs.ResidueSteps.{negative_difference_wraps, nonnegative_difference_is_exact}
use Rattle.modular_prim.proofs.ResidueSteps.{subtracted_once_is_remainder}
use Rattle.modular_prim.proofs.below.dbl_below.Goals as goal
use Rattle.modular_prim.proofs.below.dbl_below.Goals.{After-is_below-2}

-- where a is at least the upper half of m, the difference is the double less m
difference_is_double_less_modulus : (g : _) (c : After-is_below-2 g)
    → g.T.RingWord.number c.minus-high.result ≤ g.T.RingWord.number c.args.a
    → g.T.RingWord.number c.wrapping_sub-less.result + g.T.RingWord.number c.args.m ≡ 2 * g.T.RingWord.number c.args.a
difference_is_double_less_modulus g c more =
    let n = g.T.RingWord.number in
    let base = g.T.PathWord.base in
    let a = n c.args.a in
    let m = n c.args.m in
    let at_least : m ≤ a + a = omega (arith, c.half.ensures.value, c.minus-high.ensures.value, more) in
    let m_fits = c.is_below.ensures.fits in
    let sum : n c.wrapping_sub-less.result + m ≡ a + a =
    elim (cases_lt _ _) [
      | inl below ↦ nonnegative_difference_is_exact _ _ _ _ below c.wrapping_sub-less.ensures.fits at_least
          (c.wrapping_sub-less.ensures.value ∙ c.wrapping_add-twice.ensures.value ∙ mod-eq_of_lt below)
      | inr above ↦
          let x = a + a - base in
          let whole : a + a ≡ x + base = omega arith in
          let small : x < m = omega (arith, c.requires, m_fits) in
          let up = negative_difference_wraps _ _ x _ m_fits c.wrapping_sub-less.ensures.fits small
          (c.wrapping_sub-less.ensures.value ∙ c.wrapping_add-twice.ensures.value ∙ ap (λ v. v % base) whole
          ∙ add-mod_right x _ ∙ mod-eq_of_lt (omega (arith, small, m_fits))) in
          omega (arith, up, whole)
    ] in
    omega (arith, sum)

pub returns-then-is_below-clause-value : goal.returns-then-is_below-clause-value
returns-then-is_below-clause-value g c = grind (arith, mod-eq_of_lt)

pub returns-else-is_below : goal.returns-else-is_below
returns-else-is_below g c =
    let n = g.T.RingWord.number in
    let a = n c.args.a in
    let m = n c.args.m in
    let more : n c.minus-high.result ≤ a = grind arith in
    let is = difference_is_double_less_modulus g (goal.at.returns-else-is_below g c).After-is_below-2 more in
    let high = c.requires in
    let twice : 2 * a < 2 * m = omega (arith, high) in
    let low : m ≤ 2 * a = omega (arith, is) in
    record {
      value = subtracted_once_is_remainder m (2 * a) (n c.wrapping_sub-less.result) low twice is;
      below = omega (arith, is, twice);
    }
