use Rattle.std.proofs.Common.{◌≡◌, ℕ, ◌+◌, ◌-◌, ◌*◌, ◌/◌, ◌^◌, ◌<◌, ◌≤◌, map, slice_index}
use Rattle.std.proofs.Common.{sym, ◌∙◌, ap, ap₂, subst, arith}
use Rattle.std.proofs.Math.Pow.{pow_mono}
use Rattle.std.proofs.lemmas.Nat.{pow-add, mul-lt}
use Rattle.modular_word.specs.Congruence.{Congruent}
use Rattle.modular_word.specs.Sums.{sum_below}
use Rattle.modular_reduced.proofs.CarriedSums.{IsPartedSum, product_read, part_added, part_fits, without_carry}
use Rattle.modular_reduced.proofs.CarriedSums.{JoinsParts, parted_sum_joins_parts}
use Rattle.modular_reduced.proofs.list_products.sum_by_upper_parts.Goals as goal
use Rattle.modular_reduced.proofs.list_products.sum_by_upper_parts.Goals.{After-double_shift_right, After-is_below}
use Rattle.modular_reduced.proofs.list_products.sum_by_upper_parts.Goals.{then-is_below, else-is_below}

half_is : (w b : ℕ) → 8 ≤ w → b ≡ 2 ^ w → b ≡ 2 * 2 ^ (w - 1)
half_is w b wide base =
    base ∙ ap (λ k. 2 ^ k) (let e : w ≡ 1 + (w - 1) = omega (arith, wide) in e) ∙ pow-add 2 1 (w - 1)

half_least : (w : ℕ) → 8 ≤ w → 128 ≤ 2 ^ (w - 1)
half_least w wide = pow_mono (let l : 7 ≤ w - 1 = omega (arith, wide) in l)

-- a product p with its upper part u, where n products are added already, and h is half of the base
record IsNext (h b n p u : ℕ) : Type 0 where
  base : b ≡ 2 * h
  square : b * b ≡ 2 * h * (2 * h)
  some : 0 < h
  within : n < h
  fits : p < 2 * h * (2 * h)
  upper : u ≡ p / h

upper_part_of_next_product : (g : _) (c : After-double_shift_right g)
    → IsNext (2 ^ (g.T.RingWord.width - 1)) g.T.PathWord.base (c.products.i - c.args.from)
    (g.T.PathWord.double_number c.product-product.result) (g.T.PathWord.double_number c.double_shift_right.result)
upper_part_of_next_product g c =
    let w = g.T.RingWord.width in let b = g.T.PathWord.base in let p =
    g.T.PathWord.double_number c.product-product.result in
    let base = half_is w b g.met.T.RingWord.width_from g.met.T.PathWord.base_is in
    let square = ap₂ (λ v k. v * k) base base in
    let least = half_least w g.met.T.RingWord.width_from in
    let last : c.products.i < c.args.to = omega arith in
    let product = c.product-product.ensures in
    record {
      base = base;
      square = square;
      some = omega (arith, least);
      within = omega (arith, c.requires.few, last, base);
      fits = subst (λ v. p < v) square (subst (λ v. v < b * b) (sym product.value)
          (mul-lt _ _ b b product.fits product.other_fits));
      upper = c.double_shift_right.ensures ∙ ap (λ k. p / 2 ^ (k - 1)) c.bits.ensures;
    }

pub double_plus-upper-requires : goal.double_plus-upper-requires
double_plus-upper-requires g c =
    let next = upper_part_of_next_product g c in
    let l = part_fits _ (g.T.PathWord.double_number c.products.upper) _ _ c.products.invariant.few next.within next.fits
    in
    omega (arith, l, next.square, next.upper)

pub products-preserved : goal.products-preserved
products-preserved g c =
    let number = g.T.RingWord.number in let wide = g.T.PathWord.double_number in
    let f = λ (i : ℕ). slice_index (map number c.args.xs.now) i * slice_index (map number c.args.ys.now) i in
    let h = 2 ^ (g.T.RingWord.width - 1) in let i = c.products.i in
    let next = upper_part_of_next_product g (goal.at.products-preserved g c).After-double_shift_right in
    let added = c.double_overflowing_add-sum in let sum = wide added.result.0 in
    let carried : Congruent (2 * h * (2 * h)) sum (wide c.products.sum + wide c.product-product.result) =
    without_carry _ _ _ added.result.1 (λ t. added.ensures.carried t ∙ ap (λ v. sum + v) next.square)
    added.ensures.exact in
    let is = product_read number c.args.xs.now c.args.ys.now i c.index-xs-i.result c.index-ys-i.result _
    (omega (arith, c.requires.within)) c.requires.equal c.index-xs-i.is c.index-ys-i.is c.product-product.ensures.value
    in
    let more : i + 1 - c.args.from ≡ i - c.args.from + 1 = omega arith in
    subst (λ n. IsPartedSum h sum (wide c.double_plus-upper.result) n (sum_below c.args.from f) (sum_below (i + 1) f))
    (sym more)
    (part_added h _ _ _ _ _ _ _ i f c.products.invariant is next.some carried
    (subst (λ v. sum < v) next.square added.ensures.fits) next.fits
    (c.double_plus-upper.ensures ∙ ap (λ v. wide c.products.upper + v) next.upper))

-- the carries, by the words above the lowest one
carries_are : (g : _) (c : After-is_below g)
    → let number = g.T.RingWord.number in
    let f = λ (i : ℕ). slice_index (map number c.args.xs.now) i * slice_index (map number c.args.ys.now) i in
    JoinsParts g.T.PathWord.base (g.T.PathWord.double_number c.products.sum) (sum_below c.args.from f)
    (sum_below c.args.to f) (number c.split-least.result.0) (number c.split-least.result.1) (number c.split.result.1)
carries_are g c =
    let number = g.T.RingWord.number in let wide = g.T.PathWord.double_number in let from = c.args.from in
    let f = λ (i : ℕ). slice_index (map number c.args.xs.now) i * slice_index (map number c.args.ys.now) i in
    let w = g.T.RingWord.width in let b = g.T.PathWord.base in
    let base = half_is w b g.met.T.RingWord.width_from g.met.T.PathWord.base_is in
    let parts : IsPartedSum (2 ^ (w - 1)) _ _ (c.args.to - from) (sum_below from f) (sum_below c.args.to f) =
    subst (λ i. IsPartedSum _ (wide c.products.sum) (wide c.products.upper) (i - from) (sum_below from f)
    (sum_below i f))
    (omega arith) c.products.invariant in
    parted_sum_joins_parts b _ _ _ _ _ _ _ _ _ _ parts base (half_least w g.met.T.RingWord.width_from)
    (omega (arith, c.requires.few, base))
    (sym c.double_shift_right-2.ensures ∙ c.split-least.ensures.value) c.split-least.ensures.low_fits
    c.split.ensures.value c.split.ensures.low_fits c.split.ensures.high_fits

pub plus-carries-requires : goal.plus-carries-requires
plus-carries-requires g c =
    omega (arith, (carries_are g (goal.at.plus-carries-requires g c).After-is_below).room, c.one.ensures)

pub returns : goal.returns
returns g c =
    let number = g.T.RingWord.number in let q = g.T.PathWord.base * g.T.PathWord.base in
    let are = carries_are g (goal.at.returns g c).After-is_below in let most = number c.split-least.result.1 in
    elim c.if-is_below.branch [
      | then-is_below w ↦
          let more : q * number c.if-is_below.carries ≡ q * (most + 1) =
          ap (λ v. q * v) (ap number w.carries-is ∙ w.plus-carries.ensures ∙ ap (λ v. most + v) w.one.ensures) in
          omega (arith, more, are.carried (c.is_below.ensures.below.0 w.if-is_below.true))
      | else-is_below w ↦
          let l : number c.split-least.result.0 ≤ number c.split.result.1 =
          grind (arith, w.if-is_below, c.is_below.ensures.below) in
          let same : q * number c.if-is_below.carries ≡ q * most = ap (λ v. q * number v) w.carries-is in
          omega (arith, same, are.exact l)
    ]
