use Rattle.std.proofs.Common.{◌≡◌, ℕ, ◌+◌, ◌*◌, ◌<◌, sym, ◌∙◌, arith}
use Rattle.std.proofs.Math.Nat.{lt_of_mul-lt-mul_left}
use Rattle.std.proofs.lemmas.Bool.{false≢true}
use Rattle.modular_barrett.proofs.normalized.Normalized2by1Divisor.div_rem_2by1.Goals as goal

-- the high word of a double word below d times the base is below d
high_word_below_divisor : (b d a low high : ℕ) → a ≡ low + b * high → a < d * b → high < d
high_word_below_divisor b d a low high e less = lt_of_mul-lt-mul_left b (let k : b * high < b * d =
    omega (arith, e, less) in k)

pub prove-unreachable-requires : goal.prove-unreachable-requires
prove-unreachable-requires g c =
    false≢true
    (sym c.if-prove.true ∙ c.is_below.ensures.below.1 (high_word_below_divisor _ _ _ _ _ c.split.ensures.value
    c.requires))

pub returns : goal.returns
returns g c = c.div_2by1.ensures
