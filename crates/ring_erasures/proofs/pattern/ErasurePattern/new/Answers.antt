use Rattle.std.proofs.lemmas.Bool.{false≢true}
use Rattle.num_modular.specs.Callers.{◌%◌, ◌∙◌, ap, sym, subst, arith}
use Rattle.num_modular.specs.Transforms.{Suits}
use Rattle.ring_erasures.proofs.pattern.ErasurePattern.new.Goals as goal
use Rattle.ring_erasures.proofs.pattern.ErasurePattern.new.Goals.{then-not-is_odd-via-then-not-is_odd}
use Rattle.ring_erasures.proofs.pattern.ErasurePattern.new.Goals.{then-not-is_odd-via-else-not-is_odd+then-not-root_fits}

pub returns-then-not-is_odd : goal.returns-then-not-is_odd
returns-then-not-is_odd g c =
    let erased = c.in-Ok.ensures 0 0 in (
      erased,
      λ odd suits. elim c.then-not-is_odd.branch [
        | then-not-is_odd-via-then-not-is_odd w ↦ false≢true (sym w.if-not-is_odd.true
            ∙ c.is_odd.ensures.odd.1 (ap (λ n. n % 2) c.modulus.ensures ∙ odd))
        | then-not-is_odd-via-else-not-is_odd+then-not-root_fits w ↦ false≢true (sym w.if-not-root_fits.true
            ∙ w.root_fits.ensures.1 (subst (Suits _ _) (sym c.check_places.auto.marks) suits))
      ],
    )

pub fill_factors-requires-clause-erased : goal.fill_factors-requires-clause-erased
fill_factors-requires-clause-erased g c =
    let erased = c.in-Ok.ensures 0 0 in let enough = erased.enough in let some = c.requires.some in
    rw c.check_places.auto.marks (record { enough = omega (arith, enough, some); places = erased.places })

pub invariant_of-result : goal.invariant_of-result
invariant_of-result g c =
    let long = c.fill_factors.auto.factors in
    record {
      root_form = c.requires.root;
      factor_forms = c.fill_factors.ensures.checked;
      some = c.requires.some;
      odd = sym (ap (λ n. n % 2) c.modulus.ensures) ∙ c.is_odd.ensures.odd.0 c.if-not-is_odd.false;
      suits = ∣ rw long (c.root_fits.ensures.0 c.if-not-root_fits.false) ∣₁;
      erased = rw (long ∙ c.check_places.auto.marks) (c.in-Ok.ensures 0 0);
      inverses = λ points powers. rw long (c.fill_factors.ensures.factors points (rw long at powers));
    }
