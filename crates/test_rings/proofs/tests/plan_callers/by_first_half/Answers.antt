use Rattle.std.proofs.Common.{◌≡◌, ℕ, suc, zero, ◌+◌, ◌*◌, ◌/◌, ◌%◌, ◌^◌, ◌<◌, List, length, get_or, map, take, refl}
use Rattle.std.proofs.Common.{sym, ◌∙◌}
use Rattle.std.proofs.Common.{ap, arith, subst}
use Rattle.std.proofs.Math.Nat.{two-pow-succ, div_self, pow-suc, pow-zero}
use Rattle.std.proofs.lemmas.List.{take-map, get_or-take, length-take-le}
use Rattle.std.proofs.lemmas.Nat.{pow_pos}
use Rattle.std.specs.Int.{IsPowerOfTwo}
use Rattle.modular_transform.specs.Transforms.{transform}
use Rattle.modular_plan_passes.specs.Factors.{IsFactor}
use Rattle.modular_plan_passes.specs.Plans.{numbers, AreTwiddles}
use Rattle.test_rings.proofs.tests.plan_callers.by_first_half.Goals as goal

-- half of a power of two that is even
half_of_power_is_power : (z n : ℕ) → 2 * n ≡ 2 ^ z → IsPowerOfTwo n
half_of_power_is_power zero n e = let one : 2 ^ 0 ≡ 1 = refl in absurd (omega (arith, e, one))
half_of_power_is_power (suc z) n e = let two = two-pow-succ z in (z, omega (arith, e, two))

-- the table for 2^y entries is the first half of the table
in_half : {T : Type 0} (value : T → ℕ) (m g n y : ℕ) (table : List T) → length table ≡ n → n ≡ 2 ^ y
    → AreTwiddles m (g ^ (2 ^ 1) % m) y (2 ^ y / 2) (numbers value table)
    → AreTwiddles m (g ^ 2 % m) y (length (take (n / 2) table)) (numbers value (take (n / 2) table))
in_half value m g n y table whole is twiddles =
    let two : 2 ^ 1 ≡ 2 = refl in
    let p = subst (λ e. AreTwiddles m (g ^ e % m) y (2 ^ y / 2) (numbers value table)) two twiddles in
    let count : length (take (n / 2) table) ≡ 2 ^ y / 2 =
    length-take-le (n / 2) table (omega (arith, whole)) ∙ ap (λ v. v / 2) is in
    record {
      suits = p.suits;
      half = count;
      entry = λ k l.
          let within : k < n / 2 = omega (arith, l, count, is) in
          ap (λ ys. get_or ys k 0) (sym (take-map value (n / 2) table))
          ∙ get_or-take (n / 2) (map value table) k 0 within ∙ p.entry k (omega (arith, l, count));
    }

-- a power by the quotient of equal numbers
whole_power : (h y n : ℕ) → n ≡ 2 ^ y → h ^ (2 ^ y / n) ≡ h
whole_power h y n is =
    let some = pow_pos y in
    let one : 2 ^ y / n ≡ 1 = ap (λ v. 2 ^ y / v) is ∙ div_self some in
    let up : 1 ≡ suc 0 = refl in
    let times : 1 * h ≡ h = omega arith in
    ap (λ e. h ^ e) (one ∙ up) ∙ pow-suc h 0 ∙ ap (λ v. v * h) (pow-zero h) ∙ times

pub fill_table-requires-clause-below : goal.fill_table-requires-clause-below
fill_table-requires-clause-below g c = c.requires.below

pub fill_table-requires-clause-suits : goal.fill_table-requires-clause-suits
fill_table-requires-clause-suits g c = c.requires.suits

pub slice_bounds-ntt_planned-end : goal.slice_bounds-ntt_planned-end
slice_bounds-ntt_planned-end g c = omega arith

pub slice_bounds-ntt_planned-end-2 : goal.slice_bounds-ntt_planned-end-2
slice_bounds-ntt_planned-end-2 g c =
    let half = length c.fill_table.new.table / 2 in sym (length-take-le half c.fill_table.new.table (omega arith))

pub ntt_planned-requires-clause-entries : goal.ntt_planned-requires-clause-entries
ntt_planned-requires-clause-entries g c = c.requires.entries

pub ntt_planned-requires-clause-factors : goal.ntt_planned-requires-clause-factors
ntt_planned-requires-clause-factors g c =
    let n = g.T.RingWord.number in
    let table = c.fill_table.new.table in
    let half = length table / 2 in
    let count = length-take-le half table (omega arith) in
    λ k d l.
    subst (λ f. IsFactor g.T.PathWord.base (n c.args.m.now.modulus) (n f.value) (n f.quotient))
    (sym (get_or-take half table k d (omega (arith, l, count)))) (c.fill_table.ensures.factors k d
    (omega (arith, l, count)))

pub ntt_planned-requires-clause-within : goal.ntt_planned-requires-clause-within
ntt_planned-requires-clause-within g c =
    let table = c.fill_table.new.table in
    let count = length-take-le (length table / 2) table (omega arith) in
    let same : length table ≡ length c.args.table.now = omega arith in
    omega (arith, count, same, c.requires.half)

pub ntt_planned-requires-clause-count : goal.ntt_planned-requires-clause-count
ntt_planned-requires-clause-count g c =
    let power = c.requires.suits.power_of_two in
    subst IsPowerOfTwo (sym c.requires.half) (half_of_power_is_power power.0 (length c.args.table.now) power.1)

pub returns : goal.returns
returns g c =
    let n = g.T.RingWord.number in
    let m = n c.args.m.now.modulus in
    let power = c.requires.suits.power_of_two in
    let half = half_of_power_is_power power.0 (length c.args.table.now) power.1 in
    let y = half.0 in
    let two = two-pow-succ y in
    let h : ℕ = n c.args.g ^ 2 % m in
    let up : y + 1 ≡ suc y = omega arith in
    let e = ap (λ v. 2 ^ v) up in
    let is = half.1 in
    let same : length c.fill_table.new.table ≡ length c.args.table.now = omega arith in
    let length_is : length c.args.xs.now ≡ 2 ^ y = c.requires.half ∙ is in
    let twiddles = in_half (λ f. n f.value) m (n c.args.g) (length c.fill_table.new.table) y c.fill_table.new.table refl
    (same ∙ is)
    (c.fill_table.ensures.first y 1 (omega (arith, e, two, is))) in
    λ j l. c.ntt_planned.ensures.values h y j twiddles l
    ∙ ap (λ r. transform m r (length c.args.xs.now) (numbers n c.args.xs.now) j) (whole_power h y (length c.args.xs.now)
    length_is)
