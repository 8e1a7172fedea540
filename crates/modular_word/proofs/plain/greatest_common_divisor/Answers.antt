-- One more number tried; and what the greatest common divisor says of inverses.
use Rattle.std.proofs.Common.{◌≡◌, ◌≢◌, ◌%◌, ◌+◌, add-one, refl, sym, ap, ◌∙◌, arith, suc}
use Rattle.modular_word.specs.Divisors.{gcd, gcd_up_to}
use Rattle.modular_word.proofs.Divisors.{gcd_is, HasInverse-gcd, gcd_up_to-hit, gcd_up_to-miss}
use Rattle.modular_word.proofs.plain.greatest_common_divisor.Goals as goal
use Rattle.modular_word.proofs.plain.greatest_common_divisor.Goals.{then-a-divisor-eq0+then-n-divisor-eq0}
use Rattle.modular_word.proofs.plain.greatest_common_divisor.Goals.{else-a-divisor-eq0}
use Rattle.modular_word.proofs.plain.greatest_common_divisor.Goals.{else-a-divisor-eq0-via-then-a-divisor-eq0+else-n-divisor-eq0}
use Rattle.modular_word.proofs.plain.greatest_common_divisor.Goals.{else-a-divisor-eq0-via-else-a-divisor-eq0}

pub divisors-init : goal.divisors-init
unfolding gcd_up_to
divisors-init c = refl

pub divisors-preserved : goal.divisors-preserved
divisors-preserved c =
    let a = c.args.a in
    let n = c.args.n in
    let k = c.divisors.below in
    let next : k + 1 ≡ suc k = add-one k in
    elim c.if-a-divisor-eq0.branch [
      | then-a-divisor-eq0+then-n-divisor-eq0 w ↦
          let u : a % suc k ≡ 0 = sym (ap (λ v. a % v) next) ∙ w.if-a-divisor-eq0.true in
          let v : n % suc k ≡ 0 = sym (ap (λ v. n % v) next) ∙ w.if-n-divisor-eq0.true in
          w.greatest-is ∙ next ∙ sym (gcd_up_to-hit _ _ k u v) ∙ sym (ap (λ v. gcd_up_to a n v) next)
      | else-a-divisor-eq0 w ↦
          let miss : a % suc k ≡ 0 → n % suc k ≢ 0 =
          grind (
            arith,
            else-a-divisor-eq0-via-then-a-divisor-eq0+else-n-divisor-eq0,
            else-a-divisor-eq0-via-else-a-divisor-eq0,
          ) in
          w.greatest-is ∙ c.divisors.invariant ∙ sym (gcd_up_to-miss _ _ k miss) ∙ sym (ap (λ v. gcd_up_to a n v) next)
    ]

pub returns : goal.returns
returns c =
    let e : c.divisors.below ≡ c.args.n = omega arith in
    let same : c.divisors.greatest ≡ gcd c.args.a c.args.n =
    c.divisors.invariant ∙ ap (λ v. gcd_up_to c.args.a c.args.n v) e in
    record {
      computed = same;
      greatest = rw same (gcd_is _ _ c.requires);
      inverse = rw same (HasInverse-gcd _ _ c.requires);
    }
