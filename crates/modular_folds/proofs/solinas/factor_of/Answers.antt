use Rattle.std.proofs.Common.{◌≤◌, arith, lit<}
use Rattle.std.proofs.Math.Nat.{pow-le-pow_right}
use Rattle.std.proofs.lemmas.Int.{ints}
use Rattle.modular_folds.specs.SolinasLaws.{trinomial_is, last_term}
use Rattle.modular_folds.proofs.solinas.factor_of.Goals as goal

pub returns : goal.returns
returns c =
    let r = c.requires in
    let most = pow-le-pow_right {n = 2} (lit< tt) (let e : c.args.p2 ≤ 63 = omega (arith, r.fits, r.falling) in e) in
    omega (arith, ints, trinomial_is r, (last_term r).0, (last_term r).1, most)
