use Rattle.std.proofs.Common.{◌≡◌, ℕ, ◌+◌, ◌*◌, ◌%◌, ap, ◌∙◌, sym, arith}
use Rattle.std.proofs.lemmas.Nat.{mod-mul-add}
use Rattle.modular_word.specs.Division.{IsDivision}
use Rattle.test_callers.proofs.normalized.remainder_of_three.Goals as goal

-- what is left of the high words goes into the next division in their place
two_steps : (b d low middle high first second q rest k r : ℕ)
    → first ≡ middle + b * high → IsDivision first d q rest → second ≡ low + b * rest → IsDivision second d k r
    → r ≡ (low + b * (middle + b * high)) % d
two_steps b d low middle high first second q rest k r e h f i =
    let top : b * (middle + b * high) ≡ b * (q * d + rest) = ap (λ v. b * v) (sym e ∙ h.whole) in
    let all : low + b * (middle + b * high) ≡ (k + b * q) * d + r = omega (arith, i.whole) in
    sym (ap (λ v. v % d) all ∙ mod-mul-add (k + b * q) d r i.below)

pub returns : goal.returns
returns g c =
    two_steps _ _ _ _ _ _ _ _ _ _ _ c.merge.ensures.value c.div_rem_2by1-rest.ensures c.merge-2.ensures.value
    c.div_rem_2by1-remainder.ensures
