-- Powers to secret exponents: what a digit leaves to do, and the clauses of an inverse.
use Rattle.std.proofs.Common.{◌≡◌, ℕ, ◌+◌, ◌-◌, ◌*◌, ◌/◌, ◌%◌, ◌^◌, ◌<◌, ◌≤◌, ◌∙◌, ap, arith, ⊎_elim}
use Rattle.std.proofs.Math.Nat.{pow-suc, pow-zero}
use Rattle.std.proofs.lemmas.Bool.{cases_lt}
use Rattle.modular_reduced.specs.Forms.{Represents, IsCanonical}
use Rattle.modular_reduced.proofs.PowerForms.{power_odd_step, power_even_step}
use Rattle.modular_reduced.proofs.PowerSoFar.{PowerSoFar}

-- half of the exponent has a digit less
pub half_below : (rest half bits done : ℕ) → done < bits → rest < 2 ^ (bits - done) → half ≡ rest / 2
    → half < 2 ^ (bits - (done + 1))
half_below rest half bits done more fits e =
    let power : 2 ^ (bits - done) ≡ 2 ^ (bits - (done + 1)) * 2 = ap (λ n. 2 ^ n) (omega arith)
    ∙ pow-suc _ (bits - (done + 1)) in
    omega (arith, power)

-- with no digit left, nothing is left of the exponent
pub none_left : (rest bits done : ℕ) → rest < 2 ^ (bits - done) → bits ≡ done → rest ≡ 0
none_left rest bits done fits e = grind (arith, pow-zero)

-- a digit, where a mask chooses the product
pub power_step : {form value : ℕ → ℕ → ℕ} {width m product power rest wanted longer next square half : ℕ}
    → IsCanonical form value width m → PowerSoFar form value m product power rest wanted
    → Represents form m longer (value m product * value m power % m)
    → Represents form m square (value m power * value m power % m) → half ≡ rest / 2
    → (rest % 2 ≡ 1 → next ≡ longer) → (rest % 2 ≡ 0 → next ≡ product)
    → PowerSoFar form value m next square half wanted
power_step {form} {value} {width} {m} {product} {power} {rest} {wanted} {longer} {next} {square} {half} canonical so_far
    made squared halved
    taken kept =
    ⊎_elim
    (λ (l : rest % 2 < 1).
    rw (kept (omega arith)) (power_even_step canonical so_far (λ (odd : rest % 2 ≡ 1). absurd (omega arith)) squared
    halved))
    (λ (l : 1 ≤ rest % 2).
    rw (taken (omega arith)) (power_odd_step canonical so_far (omega arith) made squared halved))
    (cases_lt _ _)
