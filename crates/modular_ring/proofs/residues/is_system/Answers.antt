use Rattle.std.proofs.Common.{◌≡◌, ℕ, ◌*◌, ◌<◌, List, slice_index, get_or, true, false}
use Rattle.std.proofs.Common.{arith, rules, ap, sym, subst, ◌∙◌, below_more}
use Rattle.std.proofs.lemmas.Bool.{false≢true}
use Rattle.modular_word.specs.Divisors.{Coprime}
use Rattle.modular_word.specs.Inverses.{HasInverse}
use Rattle.modular_ring.specs.ProductLaws.{product-zero, product-more, has_each}
use Rattle.modular_ring.specs.SystemLaws.{unit_here, next_fits}
use Rattle.modular_ring.proofs.residues.is_system.Goals as goal
use Rattle.modular_ring.proofs.residues.is_system.Goals.{then-modulus-eq0-via-then-modulus-eq0}
use Rattle.modular_ring.proofs.residues.is_system.Goals.{then-modulus-eq0-via-else-modulus-eq0+then-not-has_inverse}

pub moduli-init : goal.moduli-init
moduli-init c = search (arith, product-zero)

pub returns-then-modulus-eq0 : goal.returns-then-modulus-eq0
returns-then-modulus-eq0 c = (
  (λ t. absurd (false≢true t)),
  λ system.
      let positive = system.positive c.moduli.place c.moduli-test.true in
      let unit : HasInverse (get_or c.args.moduli.now c.moduli.place 0) c.moduli.range =
      subst (HasInverse (get_or c.args.moduli.now c.moduli.place 0)) (sym c.moduli.invariant.range)
      (unit_here c.args.moduli.now c.moduli.place c.divisor_laws.ensures.coprime
      c.inverse_laws.ensures.exists system c.moduli-test.true) in
      elim c.then-modulus-eq0.branch [
        | then-modulus-eq0-via-then-modulus-eq0 w ↦ absurd (omega arith)
        | then-modulus-eq0-via-else-modulus-eq0+then-not-has_inverse w ↦
            let found : w.has_inverse.result ≡ true = w.has_inverse.ensures.1 unit in
            let missed : w.has_inverse.result ≡ false = first_of (search rules, cc) in
            absurd (false≢true (sym missed ∙ found))
      ],
)

pub returns-in-None : goal.returns-in-None
returns-in-None c = search (arith, false≢true, next_fits)

pub moduli-preserved : goal.moduli-preserved
moduli-preserved c =
    let ms : List ℕ = c.args.moduli.now in
    let place : ℕ = c.moduli.place in
    let m = get_or ms place 0 in
    let positive : 0 < m = omega arith in
    let found : c.has_inverse.result ≡ true = first_of (search rules, cc) in
    let unit = subst (HasInverse m) c.moduli.invariant.range (c.has_inverse.ensures.0 found) in
    record {
      range = c.in-Some.ensures.0 ∙ ap (λ k. k * m) c.moduli.invariant.range
          ∙ sym (product-more (slice_index ms) place);
      fits = c.in-Some.ensures.1;
      positive = below_more (λ i. 0 < get_or ms i 0) place c.moduli.invariant.positive positive;
      coprime = λ i j h k.
          below_more (λ i. (j : ℕ) → j < i → Coprime (get_or ms j 0) (get_or ms i 0)) place
          (λ i l j h. c.moduli.invariant.coprime i j h l)
          (λ j h. (c.divisor_laws.ensures.coprime (get_or ms j 0) m positive).1
          ((c.inverse_laws.ensures.exists m (get_or ms j 0) positive).0 (has_each m place (slice_index ms) unit j h)))
          i k j h;
    }
