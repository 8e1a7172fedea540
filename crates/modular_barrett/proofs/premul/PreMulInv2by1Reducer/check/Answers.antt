use Rattle.std.proofs.Common.{refl, sym, ◌≡◌, ℕ, ◌+◌, ◌*◌, ◌/◌, ◌%◌, ◌^◌, ◌<◌, ap, ◌∙◌, arith}
use Rattle.std.proofs.Math.Nat.{div-add-mod, lt_of_mul-lt-mul_right}
use Rattle.std.proofs.lemmas.Nat.{mod-mul-add, pow_pos}
use Rattle.std.specs.Int.Count.{count_leading_zeros}
use Rattle.modular_barrett.specs.Scaling.{scale, IsScaling}
use Rattle.modular_barrett.proofs.ScaledLemmas.{IsScaledForm, form_below}
use Rattle.modular_barrett.proofs.premul.PreMulInv2by1Reducer.check.Goals as goal

-- a word below the scaled modulus is a form exactly where its low bits are 0
low_of : {w m d s : ℕ} (f : ℕ) {low : ℕ} → IsScaling w m d s → low ≡ f % 2 ^ s → low ≡ f % scale w m
low_of f is e = e ∙ ap (λ k. f % 2 ^ k) is.zeros

is_form : (w m d s f low : ℕ) → IsScaling w m d s → f < m * scale w m → low ≡ f % 2 ^ s → low ≡ 0 → IsScaledForm w m f
is_form w m d s f low is h e z =
    let p = scale w m in
    let parts : p * (f / p) + f % p ≡ f = div-add-mod f p in
    let rest : low ≡ f % p = low_of f is e in
    let whole : f ≡ f / p * p = omega arith in
    record { below = lt_of_mul-lt-mul_right p (let k : f / p * p < m * p = omega arith in k); same = whole }

is_clear : (w m d s f low : ℕ) → IsScaling w m d s → low ≡ f % 2 ^ s → IsScaledForm w m f → low ≡ 0
is_clear w m d s f low is e form =
    let p = scale w m in
    let whole : f ≡ f / p * p + 0 = omega (arith, form.same) in
    low_of f is e ∙ ap (λ v. v % p) whole ∙ mod-mul-add (f / p) p 0 (pow_pos (count_leading_zeros w m))

pub returns-then-is_refused_first : goal.returns-then-is_refused_first
returns-then-is_refused_first g c = (
  (λ h. absurd (cc)),
  (λ form. absurd (c.is_refused_first.ensures c.if-is_refused_first.true
      (is_clear _ _ _ _ _ _ c.args.self.now.scaling refl form))),
)

pub returns-then-is_below : goal.returns-then-is_below
returns-then-is_below g c =
    let n = g.T.RingWord.number in
    let is = c.args.self.now.scaling in
    let below = c.is_below.ensures.below.0 c.if-is_below.true in
    let bits = c.low_bits.ensures.value in
    let zero = c.is_zero_word.ensures.zero in (
      (λ h. is_form _ _ _ _ _ _ is (omega (arith, c.divisor.ensures.scaled)) bits (zero.0 h)),
      (λ form. zero.1 (is_clear _ _ _ _ _ _ is bits form)),
    )

pub returns-else-is_below : goal.returns-else-is_below
returns-else-is_below g c = (
  (λ h. absurd (cc)),
  (λ form. sym c.if-is_below.false ∙ c.is_below.ensures.below.1 (form_below _ _ _ _ c.divisor.ensures.scaled form)),
)
