-- All ones, shifted right.
use Rattle.std.proofs.Common.{◌≡◌, ℕ, ◌+◌, ◌-◌, ◌/◌, ◌%◌, ◌^◌, ◌<◌, ◌≤◌, ⊎_elim, sym, ap, ◌∙◌, arith}
use Rattle.std.proofs.Math.Nat.{mod-eq_of_lt}
use Rattle.std.proofs.lemmas.Bool.{cases_lt}
use Rattle.modular_word.proofs.Shifts.{ones_shifted}
use Rattle.modular_word.proofs.paths.ones.Goals as goal

-- the number before b is the only one below b that is -1 modulo b
successor_of_last_is_base : (b r : ℕ) → r < b → (r + 1) % b ≡ 0 → r + 1 ≡ b
successor_of_last_is_base b r l e =
    ⊎_elim
    (λ (h : r + 1 < b). let none : r + 1 ≡ 0 = sym (mod-eq_of_lt h) ∙ e in absurd (omega arith))
    (λ (h : b ≤ r + 1). omega arith) (cases_lt _ _)

pub returns-else-n-eq0 : goal.returns-else-n-eq0
returns-else-n-eq0 g c =
    let n = g.T.RingWord.number in
    let top = n c.wrapping_sub.result in
    let minus_one : (top + 1) % g.T.PathWord.base ≡ 0 =
    ap (λ k. (top + k) % g.T.PathWord.base) (sym c.one.ensures) ∙ c.wrapping_sub.ensures.value
    ∙ c.zero-else-n-eq0.ensures in
    let all : top + 1 ≡ 2 ^ g.T.RingWord.width =
    successor_of_last_is_base _ _ c.wrapping_sub.ensures.fits minus_one ∙ g.met.T.PathWord.base_is in
    ap (λ v. v + 1) (c.shift_right.ensures.value ∙ ap (λ b. top / 2 ^ (b - c.args.n)) c.bits.ensures)
    ∙ ones_shifted _ _ _ c.requires all
