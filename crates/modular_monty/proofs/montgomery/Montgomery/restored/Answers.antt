use Rattle.std.proofs.Common.{◌≡◌, ◌*◌, ◌/◌, ◌^◌, ◌<◌, sym, ap, ◌∙◌, rules}
use Rattle.modular_monty.specs.TwoParts.{odd_part}
use Rattle.modular_monty.proofs.Twos.{IsParted, parted_of, two_part_ring}
use Rattle.modular_monty.proofs.montgomery.Montgomery.restored.Goals as goal
use Rattle.modular_monty.proofs.montgomery.Montgomery.restored.Goals.{After-shift_right, After-over}

restored_modulus_is_parted : (g : _) (c : After-shift_right g)
    → IsParted g.T.RingWord.width (g.T.RingWord.number c.args.m) c.trailing_zeros-twos.result
    (g.T.RingWord.number c.shift_right.result)
restored_modulus_is_parted g c =
    let some : 0 < g.T.RingWord.number c.args.m = search rules in
    parted_of _ _ _ _ _ g.met.T.PathWord.base_is some c.trailing_zeros-twos.ensures.fits
    c.trailing_zeros-twos.ensures.value
    c.shift_right.ensures.value

kept_modulus_is_odd_part : (g : _) (c : After-over g)
    → g.T.RingWord.number c.over.result.kept.modulus ≡ g.T.RingWord.number c.shift_right.result
kept_modulus_is_odd_part g c = ap (λ s. g.T.RingWord.number s.modulus) c.over.ensures
    ∙ ap g.T.RingWord.number c.in_ok-kept.ensures.0

pub invariant_of-result : goal.invariant_of-result
invariant_of-result g c =
    let at = goal.at.invariant_of-result g c in
    let parts = restored_modulus_is_parted g at.After-shift_right in
    let same = kept_modulus_is_odd_part g at.After-over in
    search (rules, two_part_ring)

pub returns : goal.returns
returns g c =
    let at = goal.at.returns g c in
    let is = c.in_ok-kept.ensures in
    let odd : odd_part g.T.RingWord.width (g.T.RingWord.number c.args.m) ≡ g.T.RingWord.number c.shift_right.result =
    ap (λ z. g.T.RingWord.number c.args.m / 2 ^ z) (sym c.trailing_zeros-twos.ensures.value)
    ∙ sym c.shift_right.ensures.value in (
      ap (λ k. k * 2 ^ c.trailing_zeros-twos.result) (kept_modulus_is_odd_part g at.After-over)
          ∙ (restored_modulus_is_parted g at.After-shift_right).whole,
      rw (odd, sym is.0, sym is.1, sym is.2) c.in_ok-kept.kept.ring,
    )
