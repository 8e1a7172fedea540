use Rattle.std.proofs.Common.{◌≡◌, ℕ, ◌+◌, ◌-◌, ◌*◌, ◌%◌, List, slice_index, get_or, arith, ap, ◌∙◌}
use Rattle.num_modular.specs.Systems.{range_below}
use Rattle.num_modular.specs.ProductLaws.{product-zero}
use Rattle.residue_numbers.proofs.MixedRadix.{range_more}
use Rattle.residue_numbers.proofs.Words.{weighted_lower, weighted_lowest, one_lower_modulo}
use Rattle.residue_numbers.proofs.mixed_radix.number_modulo.Goals as goal

pub digits-preserved : goal.digits-preserved
digits-preserved c =
    let ms : List ℕ = c.args.moduli.now in let ds : List ℕ = c.args.digits.now in
    let place : ℕ = c.digits.place in let next : ℕ = place - 1 in let one : place ≡ next + 1 = omega arith in
    let (high, whole, number) = c.digits.invariant.above in record {
      within = omega (arith, c.digits.invariant.within);
      above = (
        high * get_or ms next 0 + get_or ds next 0,
        weighted_lower c.args.count place next high _ (λ i. range_below i ms) ds one (range_more ms place next one)
            whole,
        c.addm-number.ensures ∙ one_lower_modulo _ c.digits.number high _ _ c.mulm.result number c.mulm.ensures,
      );
    }

pub returns : goal.returns
returns c =
    let ms : List ℕ = c.args.moduli.now in
    let (high, whole, number) = c.digits.invariant.above in
    number ∙ ap (λ k. k % c.args.m) (weighted_lowest c.args.count c.digits.place high (λ i. range_below i ms)
    c.args.digits.now
    (omega arith) (product-zero (slice_index ms)) whole)
