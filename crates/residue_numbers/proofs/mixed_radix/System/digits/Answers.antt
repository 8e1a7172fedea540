use Rattle.std.proofs.Common.{◌≡◌, ℕ, ◌+◌, ◌*◌, ◌%◌, ◌<◌, List, slice_index, length, get_or, set, arith, ap, sym, ◌∙◌}
use Rattle.std.proofs.Common.{below_more}
use Rattle.std.proofs.Math.Nat.{mod-eq_of_lt, mod-lt}
use Rattle.std.proofs.lemmas.List.{length-set}
use Rattle.num_modular.specs.Systems.{range_below}
use Rattle.num_modular.specs.ProductLaws.{product-zero, product-more}
use Rattle.num_modular.specs.SystemLaws.{divides, keeps, only_digit, modulo_one, set_more}
use Rattle.residue_numbers.specs.MixedRadix.{mixed_below}
use Rattle.residue_numbers.proofs.MixedRadix.{mixed_within, digit_gives}
use Rattle.residue_numbers.proofs.Words.{weighted_written}
use Rattle.num_modular.specs.NumberLaws.{sum_below-zero}
use Rattle.residue_numbers.proofs.mixed_radix.System.digits.Goals as goal

pub moduli-init : goal.moduli-init
moduli-init c = search (arith, product-zero, modulo_one, sum_below-zero)

pub moduli-preserved : goal.moduli-preserved
moduli-preserved c =
    let self = c.args.self.now in let ms : List ℕ = self.moduli.now in let ds : List ℕ = c.moduli.digits in
    let place : ℕ = c.moduli.place in let m = get_or ms place 0 in let r = get_or c.args.residues.now place 0 in
    let t : ℕ = c.mulm.result in let v : ℕ = c.number_modulo-known.result in let s : ℕ = c.subm-difference.result in
    let before = c.moduli.invariant in let inside = c.moduli-test.true in
    let room : place < length ds = omega (arith, before.entries, inside) in
    let range = range_below place ms in let number = mixed_below place ms ds in
    let positive : 0 < m = self.coprime.positive place inside in let is = self.inverted place inside in
    let product : (range * t) % m ≡ s % m = grind arith in
    let difference : (s + v) % m ≡ r % m =
    ap (λ k. (k + v) % m) c.subm-difference.ensures ∙ c.residue_laws.ensures.difference m r v positive in
    let right = digit_gives m number range t r v s c.number_modulo-known.ensures product difference
    ∙ mod-eq_of_lt (c.requires.reduced place inside) in
    let below : t < m = rw c.mulm.ensures (mod-lt _ positive) in
    let whole = weighted_written place t (λ i. range_below i ms) ds room in
    record {
      entries = length-set ds place t ∙ before.entries;
      below = set_more ds place t (λ i d. d < get_or ms i 0) room before.below below;
      each = below_more (λ i. mixed_below (place + 1) ms (set ds place t) % get_or ms i 0 ≡ get_or c.args.residues.now i
          0) place
          (λ i h. let (k, e) = divides place i ms h in
          ap (λ n. n % get_or ms i 0) whole ∙ keeps range (get_or ms i 0) k number t e ∙ before.each i h)
          (ap (λ n. n % m) whole ∙ right);
      only = λ x h.
          ap (λ k. x % k) (product-more (slice_index ms) place)
          ∙ only_digit range m x number t (get_or self.inverses.now place 0, is)
          (before.only x (λ i l. h i (omega arith)))
          (right ∙ sym (h place (omega arith))) (mixed_within place ms ds before.below) below
          ∙ sym whole;
    }

pub returns-clause-below : goal.returns-clause-below
returns-clause-below c = search (arith, mixed_within)

pub returns-clause-only : goal.returns-clause-only
returns-clause-only c x below are =
    let ms : List ℕ = c.args.self.now.moduli.now in
    let full : c.moduli.place ≡ length ms = omega arith in
    sym (mod-eq_of_lt below) ∙ ap (λ n. x % range_below n ms) (sym full)
    ∙ c.moduli.invariant.only x (λ i h. sym (are.each i (omega arith)))
    ∙ ap (λ n. mixed_below n ms c.moduli.digits) full
