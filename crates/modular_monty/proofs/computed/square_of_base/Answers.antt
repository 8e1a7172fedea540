use Rattle.std.proofs.Common.{◌≡◌, ◌≢◌, ℕ, ◌+◌, ◌-◌, ◌%◌, ◌^◌, ◌<◌, ◌≤◌, ap, ◌∙◌, arith}
use Rattle.modular_monty.proofs.KnownModuli.{wrapped_square, wrapped_narrow_square}
use Rattle.modular_monty.proofs.computed.square_of_base.Goals as goal

pub returns-then-width-eq64 : goal.returns-then-width-eq64
returns-then-width-eq64 c =
    rw c.if-width-eq64.true (wrapped_square (2 ^ 128) c.args.m c.requires.some (omega (arith, c.ranges.m.fits)))

-- a width that isn't 64 is at most 32
twice_width_at_most_64 : (width : ℕ) → (32 < width → width ≡ 64) → width ≢ 64 → width + width ≤ 64
twice_width_at_most_64 width one_word other = grind arith

pub returns-else-width-eq64 : goal.returns-else-width-eq64
returns-else-width-eq64 c =
    ap (λ n. n % c.args.m) c.low_bits.ensures
    ∙ wrapped_narrow_square 64 _ _ (twice_width_at_most_64 _ c.requires.one_word c.if-width-eq64.false) c.requires.some
    c.requires.fits
