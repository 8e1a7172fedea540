use Rattle.std.proofs.Common.{◌≡◌, ◌+◌, ◌-◌, ◌*◌, ◌^◌, ◌≤◌, ap, ◌∙◌, subst, sym, refl, arith}
use Rattle.std.proofs.Math.Nat.{mul-le-mul_right, pow-zero}
use Rattle.modular_word.specs.Congruence.{Congruent}
use Rattle.modular_word.proofs.Congruence.{mod_of_eq}
use Rattle.modular_prim.proofs.DifferenceSteps.{word_taken, rest_taken, shifted_factor_fits_reduction}
use Rattle.modular_secret.proofs.inverse.divided_by_twos.Goals as goal

pub redc-once-requires-clause-below : goal.redc-once-requires-clause-below
redc-once-requires-clause-below g c =
    let n = g.T.RingWord.number in
    let base = g.T.PathWord.base in
    let whole = c.merge.ensures.value ∙ ap (λ k. n c.args.v + base * k) c.zero.ensures in
    let one : 1 * n c.args.m ≤ base * n c.args.m = mul-le-mul_right _ (omega (arith, c.merge.ensures.low_fits)) in
    omega (arith, whole, one, c.requires.below)

pub redc-requires-clause-below : goal.redc-requires-clause-below
redc-requires-clause-below g c =
    let one : g.T.RingWord.width - (g.T.RingWord.width - 1) ≡ 1 = omega (arith, g.met.T.RingWord.width_from) in
    shifted_factor_fits_reduction _ _ _ _ _ _ _ g.met.T.PathWord.base_is refl
    (c.shift_left_wide.ensures.value
    ∙ ap (λ k. g.T.RingWord.number c.redc-once.result * 2 ^ k) (sym one)) c.redc-once.ensures.below

pub returns-clause-value : goal.returns-clause-value
returns-clause-value g c =
    let n = g.T.RingWord.number in
    let m = n c.args.m in
    let w = g.T.RingWord.width in
    let v = n c.args.v in
    let start : Congruent m (v * 2 ^ 0) v =
    mod_of_eq (let r : v * 2 ^ 0 ≡ v = ap (λ k. v * k) (pow-zero 2) ∙ omega arith in r) in
    let once : Congruent m (n c.redc-once.result * 2 ^ (w + 0)) v = grind (arith, word_taken) in
    let one : w - (w - 1) ≡ 1 = omega (arith, g.met.T.RingWord.width_from) in
    let shifted = c.shift_left_wide.ensures.value ∙ ap (λ k. n c.redc-once.result * 2 ^ k) (sym one) in
    let twice = rest_taken _ _ _ _ _ _ _ _ _ _ c.requires.odd
    g.met.T.PathWord.base_is (omega arith) refl shifted c.redc.ensures once in
    subst (λ k. Congruent m (n c.redc.result * 2 ^ k) v) (omega (arith, g.met.T.RingWord.width_from)) twice
