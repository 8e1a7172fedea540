-- The three cases: an even number, and the difference either way.
use Rattle.std.proofs.Common.{◌≡◌, ℕ, not, ◌+◌, ◌*◌, ◌/◌, ◌%◌, ◌<◌, ◌≤◌, ◌==◌, ap, sym, ◌∙◌, arith, ⊎_elim}
use Rattle.std.proofs.Math.Nat.{mod-eq_of_lt}
use Rattle.std.proofs.lemmas.Bool.{cases_lt}
use Rattle.modular_secret.proofs.Masks.{added_nothing, difference_added_back, other_way, base_by_four, same_parity}
use Rattle.modular_secret.proofs.Masks.{masked_parity, none_more}
use Rattle.modular_secret.proofs.HalvingSteps.{ready_even, ready_above, ready_below, ready_halved, factor_below}
use Rattle.modular_secret.proofs.HalvingSteps.{odd_flips, factor_sum_below_base}
use Rattle.modular_secret.proofs.inverse.halved.Goals as goal

pub returns : goal.returns
returns g c x k left p =
    let n = g.T.RingWord.number in
    let base = g.T.PathWord.base in
    let m = n c.args.m in
    let a = n c.args.pair.above in
    let b = n c.args.pair.below in
    let u = n c.args.pair.above_factor in
    let v = n c.args.pair.below_factor in
    let t = n c.args.pair.turns in
    let q = n c.masked.result in
    let d = n c.borrowing_sub.result.0 in
    let l = n c.borrowing_sub.result.1 in
    let h = n c.half.result in
    let taken = c.borrowing_sub.ensures in
    let b_fits = c.masked.ensures.fits in
    let four = base_by_four _ _ g.met.T.PathWord.base_is g.met.T.RingWord.width_from in
    let next : n c.half-2.result ≡ d / 2 = c.half-2.ensures.value in
    let doubled : (f : ℕ) → n c.chosen.result ≡ f → f < m → n c.doubled.result ≡ (2 * f) % m =
    λ f e s. c.doubled.ensures.value (rw e s) ∙ ap (λ z. (2 * z) % m) e in
    let plain : l ≡ 0 → h ≡ d / 2 = λ e. c.half.ensures.value ∙ ap (λ z. z / 2) (c.negated.ensures.none e) in
    ⊎_elim
    (λ (few : a % 2 < 1).
    let even : a % 2 ≡ 0 = omega arith in
    let none = p.mask_none even in
    let nothing : q ≡ 0 = c.masked.ensures.none none in
    let most : q ≤ a = omega arith in
    let clear : l ≡ 0 = taken.none most in
    let same : d ≡ a = omega (arith, taken.exact most, nothing) in
    let half : h ≡ a / 2 = plain clear ∙ ap (λ z. z / 2) same in
    let parity : n c.half-2.result % 2 ≡ h % 2 = ap (λ z. z % 2) (next ∙ sym (plain clear)) in
    let eb : n c.wrapping_add.result ≡ b =
    added_nothing _ _ _ _ (c.masked-2.ensures.none clear) c.wrapping_add.ensures.value b_fits in
    let eu : n c.wrapping_add-2.result ≡ u =
    added_nothing _ _ _ _ (c.masked-3.ensures.none none) c.wrapping_add-2.ensures.value c.chosen.ensures.second_fits in
    let et = none_more _ _ _ _ clear c.wrapping_sub.ensures.value c.wrapping_sub.ensures.fits in
    rw (eb, eu) (ready_halved _ _ x k left _ _ _ _ _ _ _ _ (t % 2 == 1) (ready_even _ _ x k (left + 1) _ _ _ _ _ _ p
    even)
    half (doubled v (c.chosen.ensures.none clear) p.below_factor)
    (λ e. c.odd_mask.ensures.all (parity ∙ e)) (λ e. c.odd_mask.ensures.none (parity ∙ e)) (ap (λ z. z % 2 == 1) et)))
    (λ (some : 1 ≤ a % 2).
    let odd : a % 2 ≡ 1 = omega arith in
    let all = p.mask_all odd in
    let same : q ≡ b = c.masked.ensures.all all in
    let whole = p.whole (omega arith) in
    let sum : u + v < base = factor_sum_below_base _ _ _ _ _ _ whole odd p.below_odd c.doubled.ensures.fits in
    let eu : n c.wrapping_add-2.result ≡ u + v =
    c.wrapping_add-2.ensures.value ∙ ap (λ z. (u + z) % base) (c.masked-3.ensures.all all) ∙ mod-eq_of_lt sum in
    ⊎_elim
    (λ (less : a < b).
    let ones : l + 1 ≡ base = taken.all (omega arith) in
    let wrapped : d + b ≡ a + base = omega (arith, taken.below (omega arith), same) in
    let eb : n c.wrapping_add.result ≡ a =
    difference_added_back _ _ _ _ _ _ less b_fits wrapped (c.masked-2.ensures.all ones) c.wrapping_add.ensures.value in
    let turn : n c.negated.result + a ≡ b =
    other_way _ _ _ _ _ less b_fits wrapped
    (let f : n c.negated.result < base = omega (arith, c.half.ensures.fits, g.met.T.PathWord.base_is) in f)
    (c.negated.ensures.all ones) in
    let e = n c.negated.result in
    let half : h ≡ e / 2 = c.half.ensures.value in
    let parity : n c.half-2.result % 2 ≡ h % 2 = ap (λ z. z % 2) next ∙ same_parity _ _ _ _ four (omega arith) in
    let et = masked_parity _ _ _ _ _ four ones c.wrapping_sub.ensures.value c.wrapping_sub.ensures.fits in
    rw (eb, eu) (ready_halved _ _ x k left _ _ _ _ _ _ _ _ (not (t % 2 == 1))
    (ready_below _ _ x k (left + 1) _ _ _ _ _ _ _ p odd less turn)
    half (doubled u (c.chosen.ensures.all ones) (factor_below _ _ _ _ _ whole odd less p.below_factor))
    (λ e. c.odd_mask.ensures.all (parity ∙ e)) (λ e. c.odd_mask.ensures.none (parity ∙ e)) (odd_flips _ _ et)))
    (λ (most : b ≤ a).
    let clear : l ≡ 0 = taken.none (omega arith) in
    let rest : d + b ≡ a = omega (arith, taken.exact (omega arith), same) in
    let parity : n c.half-2.result % 2 ≡ h % 2 = ap (λ z. z % 2) (next ∙ sym (plain clear)) in
    let eb : n c.wrapping_add.result ≡ b =
    added_nothing _ _ _ _ (c.masked-2.ensures.none clear) c.wrapping_add.ensures.value b_fits in
    let et = none_more _ _ _ _ clear c.wrapping_sub.ensures.value c.wrapping_sub.ensures.fits in
    rw (eb, eu) (ready_halved _ _ x k left _ _ _ _ _ _ _ _ (t % 2 == 1)
    (ready_above _ _ x k (left + 1) _ _ _ _ _ _ _ p odd rest)
    (plain clear) (doubled v (c.chosen.ensures.none clear) p.below_factor)
    (λ e. c.odd_mask.ensures.all (parity ∙ e)) (λ e. c.odd_mask.ensures.none (parity ∙ e)) (ap (λ z. z % 2 == 1) et)))
    (cases_lt _ _))
    (cases_lt _ _)
