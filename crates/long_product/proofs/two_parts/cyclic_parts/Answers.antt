use Rattle.std.proofs.Common.{◌≡◌, ℕ, ◌*◌, ◌%◌, ◌<◌, All, length, sym, ◌∙◌, ap, arith, subst}
use Rattle.std.proofs.lemmas.Grind.{get_or_default_zero}
use Rattle.std.proofs.lemmas.List.{get_or-map}
use Rattle.num_modular.specs.Plans.{numbers, AreRemainders}
use Rattle.long_product.proofs.Cyclic.{cyclic_of_loaded}
use Rattle.long_product.proofs.TwoParts.{coefficients_fit}
use Rattle.long_product.proofs.two_parts.cyclic_parts.Goals as goal

pub convolve-requires-clause-entries_ys : goal.convolve-requires-clause-entries_ys
convolve-requires-clause-entries_ys g c =
    let held = ap (λ v. v.modulus) c.shorter-plan.ensures.modulus ∙ c.requires.modulus in
    subst (λ p. All (λ x. x < 4 * p) c.load_whole.new.entries) (sym held)
    (coefficients_fit 1152921092289986561 c.args.ys.now c.load_whole.new.entries (omega arith) c.requires.below
    c.load_whole.ensures)

pub convolve_again-requires-clause-entries : goal.convolve_again-requires-clause-entries
convolve_again-requires-clause-entries g c = λ k d l.
    let held = ap (λ v. v.modulus) c.shorter-plan.ensures.modulus ∙ c.requires.modulus in
    let same = get_or_default_zero c.load_parts.new.highs k d l in
    omega (arith, held, same, c.load_parts.ensures.high k, c.type_inv.xs k)

pub returns-clause-low : goal.returns-clause-low
returns-clause-low g c =
    let held = ap (λ v. v.modulus) c.shorter-plan.ensures.modulus ∙ c.requires.modulus in
    let lows : length c.load_parts.new.lows ≡ c.args.n = c.load_parts.auto.lows ∙ c.requires.lows in
    record {
      below = subst (λ p. All (λ x. x < p) c.convolve.new.xs) held c.convolve.ensures.below.0;
      entries = λ e l. cyclic_of_loaded 1152921092289986561 _ c.args.n _ e _ _ _ _ _ held lows lows
          (c.load_whole.auto.entries ∙ c.requires.spare)
          (sym (get_or-map (λ (x : ℕ). x) c.convolve.new.xs e 0 0 (omega (arith, c.convolve.auto.xs, lows, l)))
          ∙ c.convolve.ensures.product e (omega (arith, lows, l)))
          (λ i k. ap (λ v. v % 1152921092289986561) (c.load_parts.ensures.low i))
          (λ i k. ap (λ v. v % 1152921092289986561) (c.load_whole.ensures i));
    }

pub returns-clause-high : goal.returns-clause-high
returns-clause-high g c =
    let plan = c.shorter-plan.result in
    let y = numbers (λ (x : ℕ). x) c.load_whole.new.entries in
    let v = numbers (λ (x : ℕ). x) c.convolve.new.ys in
    let held = ap (λ v. v.modulus) c.shorter-plan.ensures.modulus ∙ c.requires.modulus in
    let lows : length c.load_parts.new.lows ≡ c.args.n = c.load_parts.auto.lows ∙ c.requires.lows in
    let highs : length c.load_parts.new.highs ≡ c.args.n = c.load_parts.auto.highs ∙ c.requires.highs in
    let are = subst (λ k. AreRemainders plan.modulus.modulus plan.root plan.bits 0 k 1 y v) (lows ∙ sym highs)
    c.convolve.ensures.remainders in
    record {
      below = subst (λ p. All (λ x. x < p) c.convolve_again.new.xs) held c.convolve_again.ensures.below;
      entries = λ e l. cyclic_of_loaded 1152921092289986561 _ c.args.n _ e _ _ _ _ _ held highs highs
          (c.load_whole.auto.entries ∙ c.requires.spare)
          (c.convolve_again.ensures.product y are e (omega (arith, highs, l)))
          (λ i k. ap (λ v. v % 1152921092289986561) (c.load_parts.ensures.high i))
          (λ i k. ap (λ v. v % 1152921092289986561) (c.load_whole.ensures i));
    }
