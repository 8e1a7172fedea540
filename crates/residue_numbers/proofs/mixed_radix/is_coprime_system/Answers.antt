use Rattle.std.proofs.Common.{arith, ℕ, ◌<◌, List, slice_index, get_or, below_more, Option, Some, None, MatchOption}
use Rattle.std.proofs.Common.{is_some, not, true, ap, ◌∙◌, ◌≡◌}
use Rattle.std.proofs.lemmas.Bool.{false≢true}
use Rattle.num_modular.specs.Divisors.{Coprime}
use Rattle.num_modular.specs.Inverses.{IsInverse, HasInverse}
use Rattle.num_modular.specs.Systems.{range_below}
use Rattle.num_modular.specs.ProductLaws.{has_each}
use Rattle.residue_numbers.proofs.MixedRadix.{unit_at}
use Rattle.residue_numbers.proofs.mixed_radix.is_coprime_system.Goals as goal

-- what the test of an option tells
some_is : (m w : ℕ) (o : Option ℕ) → MatchOption o (0 < m → HasInverse m w → ⊥) (λ x. (0 < m) × IsInverse m w x)
    → is_some o ≡ true → (0 < m) × HasInverse m w
some_is m w (Some x) h e = (h.0, (x, h.1))
some_is m w None h e = absurd (false≢true e)

pub returns-then-is_none : goal.returns-then-is_none
returns-then-is_none c = search (arith, false≢true, unit_at)

pub moduli-preserved : goal.moduli-preserved
moduli-preserved c =
    let ms : List ℕ = c.args.moduli.now in let place : ℕ = c.moduli.place in let m = get_or ms place 0 in
    let before = c.moduli.invariant in let is = c.is_none.ensures ∙ ap not c.if-is_none.false in
    let (positive, found) = some_is m (range_below place ms) _ c.inverse_at.ensures is in
    record {
      positive = below_more (λ i. 0 < get_or ms i 0) place before.positive positive;
      coprime = λ i j h k.
          below_more (λ i. (j : ℕ) → j < i → Coprime (get_or ms j 0) (get_or ms i 0)) place
          (λ i l j h. before.coprime i j h l) (λ j h. (c.inverse_laws.ensures.coprime m (get_or ms j 0) positive).0
          (has_each m place (slice_index ms) found j h)) i k j h;
    }
