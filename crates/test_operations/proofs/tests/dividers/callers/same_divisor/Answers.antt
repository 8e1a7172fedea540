use Rattle.std.proofs.Common.{◌≡◌, ℕ, ◌+◌, ◌*◌, ◌<◌, ◌≤◌, Bool, true, false, sym, arith, rules, subst, ⊎_elim}
use Rattle.std.specs.Prelude.{IsTrue, ◌&&◌}
use Rattle.std.proofs.Math.Nat.{mul-le-mul_right}
use Rattle.std.proofs.lemmas.Bool.{cases_lt}
use Rattle.modular_word.specs.Reciprocals.{IsReciprocal}
use Rattle.test_operations.proofs.tests.dividers.callers.same_divisor.Goals as goal

first_of : (r a b : Bool) → r ≡ (a && b) → IsTrue r → IsTrue a
first_of r true b e t = search rules
first_of r false b e t = search rules

both_of : (r a b : Bool) → r ≡ (a && b) → IsTrue a → IsTrue b → IsTrue r
both_of r true true e s t = search rules
both_of r true false e s t = search rules
both_of r false b e s t = search rules

no_reciprocal_below_another : (b d u v : ℕ) → IsReciprocal b d u → IsReciprocal b d v → u < v → ⊥
no_reciprocal_below_another b d u v p q h =
    let m : (u + b + 1) * d ≤ (v + b) * d = mul-le-mul_right d (omega arith) in
    omega (arith, p.close, q.below)

-- a divisor has one reciprocal
one_reciprocal : (b d u v : ℕ) → IsReciprocal b d u → IsReciprocal b d v → u ≡ v
one_reciprocal b d u v p q =
    ⊎_elim
    (λ (h : u < v). absurd (no_reciprocal_below_another b d u v p q h))
    (λ (h : v ≤ u).
    ⊎_elim
    (λ (k : v < u). absurd (no_reciprocal_below_another b d v u q p k))
    (λ (k : u ≤ v). let e : u ≡ v = omega arith in e)
    (cases_lt v u))
    (cases_lt u v)

pub returns : goal.returns
returns g c =
    let n = g.T.RingWord.number in
    let x = c.args.left.now in
    let y = c.args.right.now in
    let equal = g.met.T.RingWord.equal in (
      λ t. (equal x.divisor y.divisor).0 (first_of _ _ _ c.eq.ensures t),
      λ e.
          let other = subst (λ d. IsReciprocal g.T.PathWord.base d (n y.reciprocal)) (sym e) y.reciprocal_is in
          let one = one_reciprocal _ _ _ _ x.reciprocal_is other in
          both_of _ _ _ c.eq.ensures ((equal x.divisor y.divisor).1 e) ((equal x.reciprocal y.reciprocal).1 one),
    )
