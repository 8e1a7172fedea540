use Rattle.std.proofs.Common.{◌≡◌, ℕ, ◌+◌, ◌-◌, ◌/◌, ◌%◌, ◌^◌, ◌≤◌, ◌∙◌, ap, arith}
use Rattle.std.proofs.lemmas.Bool.{cases_eq, false≢true}
use Rattle.modular_transform.proofs.SmallBases.{remainder_of_successor, power_of_remainder_congruent}
use Rattle.modular_transform.proofs.roots.find_root.Goals as goal

pub bases-init : goal.bases-init
bases-init g c = grind (arith, c.transform-one.ensures.checked, c.transform-one.ensures.value, c.one.ensures)

-- the root by x, the number that is tried
power_of_tried_base : (m x e one base power v k : ℕ) → 2 ≤ x → base ≡ (x - 1) % m → one ≡ 1 % m → v ≡ (base + one) % m
    → k ≡ e
    → power ≡ v ^ k % m → power ≡ x ^ e % m
power_of_tried_base m x e one base power v k from is is_one sum exponent is_power =
    search (arith, power_of_remainder_congruent, remainder_of_successor)

pub returns-then-root_fits : goal.returns-then-root_fits
returns-then-root_fits g c =
    let m = g.R.Reducer.modulus c.args.r.now in
    let x = c.bases._x in
    let n = c.args.n in
    let from : 2 ≤ x = omega arith in
    let is_one = c.transform-one.ensures.value ∙ ap (λ v. v % m) c.one.ensures in
    let root = power_of_tried_base _ _ _ _ _ _ _ _ from c.bases.invariant.base is_one c.add-base.ensures.value
    c.exponent-exponent.ensures c.pow-g.ensures.value in
    let suits = c.root_fits.ensures.0 c.if-root_fits.true in
    grind (arith, c.pow-g.ensures.checked, c.bases.invariant.tried)

pub bases-preserved : goal.bases-preserved
bases-preserved g c =
    let m = g.R.Reducer.modulus c.args.r.now in
    let x = c.bases._x in
    let n = c.args.n in
    let from : 2 ≤ x = omega arith in
    let is_one = c.transform-one.ensures.value ∙ ap (λ v. v % m) c.one.ensures in
    let same : x - 1 + 1 ≡ x + 1 - 1 = omega (arith, from) in
    let root = power_of_tried_base m x ((m - 1) / n) _ _ _ _ _ from c.bases.invariant.base is_one
    c.add-base.ensures.value
    c.exponent-exponent.ensures c.pow-g.ensures.value in
    grind (arith, c.add-base.ensures.checked, c.add-base.ensures.value, remainder_of_successor, cases_eq, false≢true)
