use Rattle.std.proofs.Common.{◌≡◌, ◌≢◌, ℕ, ◌+◌, ◌*◌, arith, rules}
use Rattle.std.proofs.lemmas.Nat.{same_from_place}
use Rattle.modular_word.specs.Division.{IsDivision}
use Rattle.modular_barrett.proofs.exact.exact_quotient.Goals as goal

-- a division that leaves something leaves no other quotient
no_quotient : (a d q r k : ℕ) → IsDivision a d q r → r ≢ 0 → k * d ≡ a → ⊥
no_quotient a d q r k h some e =
    let two : q * d + r ≡ k * d + 0 = omega (arith, h.whole) in
    some (same_from_place q r k 0 d h.below (omega (arith, h.below)) two).1

pub returns-else-is_zero_word : goal.returns-else-is_zero_word
returns-else-is_zero_word g c =
    let some : g.T.RingWord.number c.div_rem-q.result.1 ≢ 0 = search rules in
    λ k e. no_quotient _ _ _ _ k c.div_rem-q.ensures some e
