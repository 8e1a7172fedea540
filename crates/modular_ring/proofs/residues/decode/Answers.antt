use Rattle.std.proofs.Common.{◌≡◌, ℕ, ◌+◌, ◌*◌, ◌%◌, ◌<◌, List, slice_index, length, get_or, arith, ap, sym, subst, ◌∙◌}
use Rattle.std.proofs.Common.{below_more}
use Rattle.std.proofs.Math.Nat.{mod-eq_of_lt}
use Rattle.modular_word.specs.Inverses.{HasInverse}
use Rattle.modular_ring.specs.Systems.{range_below}
use Rattle.modular_ring.specs.ProductLaws.{product-zero, product-more}
use Rattle.modular_ring.specs.SystemLaws.{divides, keeps, within}
use Rattle.modular_ring.specs.SystemLaws.{only_digit, unit_here, next_fits, modulo_one}
use Rattle.modular_ring.proofs.residues.decode.Goals as goal

pub moduli-init : goal.moduli-init
moduli-init c = search (arith, product-zero, modulo_one)

pub next_digit-digit-requires-clause-unit : goal.next_digit-digit-requires-clause-unit
next_digit-digit-requires-clause-unit c =
    subst (HasInverse (get_or c.args.moduli.now c.moduli.place 0)) (sym c.moduli.invariant.range)
    (unit_here c.args.moduli.now c.moduli.place c.divisor_laws.ensures.coprime c.inverse_laws.ensures.exists
    c.requires.system c.moduli-test.true)

pub overflow_mul-number : goal.overflow_mul-number
overflow_mul-number c =
    let fits = next_fits c.args.moduli.now c.moduli.place c.moduli.range c.moduli.invariant.range
    c.requires.system c.moduli-test.true in
    let inside = within c.moduli.range (get_or c.args.moduli.now c.moduli.place 0) c.moduli.number
    c.next_digit-digit.result c.moduli.invariant.below c.next_digit-digit.ensures.below in
    omega (arith, fits, inside)

pub overflow_add-number : goal.overflow_add-number
overflow_add-number c =
    let fits = next_fits c.args.moduli.now c.moduli.place c.moduli.range c.moduli.invariant.range
    c.requires.system c.moduli-test.true in
    let inside = within c.moduli.range (get_or c.args.moduli.now c.moduli.place 0) c.moduli.number
    c.next_digit-digit.result c.moduli.invariant.below c.next_digit-digit.ensures.below in
    omega (arith, fits, inside)

pub overflow_mul-range : goal.overflow_mul-range
overflow_mul-range c = search (arith, next_fits)

pub moduli-preserved : goal.moduli-preserved
moduli-preserved c =
    let ms : List ℕ = c.args.moduli.now in
    let rs : List ℕ = c.args.residues.now in
    let place : ℕ = c.moduli.place in
    let m = get_or ms place 0 in
    let range : ℕ = c.moduli.range in
    let number : ℕ = c.moduli.number in
    let d : ℕ = c.next_digit-digit.result in
    let before = c.moduli.invariant in
    let digit = c.next_digit-digit.ensures in
    let reduced = mod-eq_of_lt (c.requires.reduced place c.moduli-test.true) in
    let unit = subst (HasInverse m) (sym before.range)
    (unit_here ms place c.divisor_laws.ensures.coprime c.inverse_laws.ensures.exists
    c.requires.system c.moduli-test.true) in
    record {
      range = ap (λ k. k * m) before.range ∙ sym (product-more (slice_index ms) place);
      below = within range m number d before.below digit.below;
      each = below_more (λ i. (number + range * d) % get_or ms i 0 ≡ get_or rs i 0) place
          (λ i h. let (k, e) = divides place i ms h in
          keeps range (get_or ms i 0) k number d (before.range ∙ e) ∙ before.each i h)
          (digit.right ∙ reduced);
      only = λ x h. only_digit range m x number d unit (before.only x (λ i l. h i (omega arith)))
          (digit.right ∙ reduced ∙ sym (h place (omega arith))) before.below digit.below;
    }

pub returns-clause-only : goal.returns-clause-only
returns-clause-only c x below are =
    let ms : List ℕ = c.args.moduli.now in
    let full : c.moduli.place ≡ length ms = omega arith in
    let inside : x < c.moduli.range =
    subst (λ n. x < n) (sym (c.moduli.invariant.range ∙ ap (λ n. range_below n ms) full)) below in
    sym (mod-eq_of_lt inside) ∙ c.moduli.invariant.only x (λ i h. sym (are.each i (omega arith)))
