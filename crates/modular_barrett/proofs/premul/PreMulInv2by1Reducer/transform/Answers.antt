use Rattle.std.proofs.Common.{◌≡◌, ◌*◌, ◌^◌, ap, ◌∙◌, arith}
use Rattle.std.proofs.Math.Nat.{pow-zero}
use Rattle.modular_reduced.proofs.FormLemmas.{answered_by_form}
use Rattle.modular_barrett.specs.ScaledForms.{scaled_canonical}
use Rattle.modular_barrett.proofs.ScaledLemmas.{scaled_number_fits_division, remainder_stands}
use Rattle.modular_barrett.proofs.premul.PreMulInv2by1Reducer.transform.Goals as goal

pub div_rem_2by1-requires : goal.div_rem_2by1-requires
div_rem_2by1-requires g c =
    let shifted = c.shift_left_wide.ensures in
    scaled_number_fits_division _ _ _ _ _ _ _ c.args.self.now.scaling shifted.fits shifted.value

-- where nothing is scaled, the word itself is divided
pub returns-then-self-eq0 : goal.returns-then-self-eq0
returns-then-self-eq0 g c =
    let n = g.T.RingWord.number c.args.n in
    let s = c.args.self.now.shift in
    let power : 2 ^ s ≡ 1 = ap (λ v. 2 ^ v) (let z : s ≡ 0 = grind arith in z) ∙ pow-zero 2 in
    let scaled : n * 2 ^ s ≡ n * 1 = ap (λ v. n * v) power in
    answered_by_form (scaled_canonical c.args.self.now.scaling)
    (remainder_stands _ _ _ _ _ _ _ _ c.args.self.now.scaling (let w : n ≡ n * 2 ^ s = omega arith in w)
    c.div_rem_1by1.ensures)

pub returns-else-self-eq0 : goal.returns-else-self-eq0
returns-else-self-eq0 g c =
    answered_by_form (scaled_canonical c.args.self.now.scaling)
    (remainder_stands _ _ _ _ _ _ _ _ c.args.self.now.scaling c.shift_left_wide.ensures.value c.div_rem_2by1.ensures)
