use Rattle.std.proofs.Common.{inl, inr, ◌∙◌, sym, subst, arith}
use Rattle.std.proofs.lemmas.Bool.{cases_eq, false≢true}
use Rattle.num_modular.specs.Roots.{root_by}
use Rattle.long_product.specs.AnyLength.{IsRootOfOrder}
use Rattle.long_product.proofs.any_length.find_root_of_order.Goals as goal

pub returns-then-is_root_of_order : goal.returns-then-is_root_of_order
returns-then-is_root_of_order c =
    let is = c.is_root_of_order.ensures.0 c.if-is_root_of_order.true in (
      c.bases.x,
      omega arith,
      record {
        from = omega arith;
        root = subst (λ g. IsRootOfOrder c.args.m g c.args.n) c.powm-g.ensures is.1;
        least = c.bases.invariant.tried;
      },
      c.powm-g.ensures,
    )

pub bases-preserved : goal.bases-preserved
bases-preserved c =
    let m = c.args.m in
    let n = c.args.n in
    record {
      tried = λ y low high is. elim (cases_eq y c.bases.x) [
        | inl e ↦
            let by_x = subst (λ v. IsRootOfOrder m (root_by m n v) n) e is in
            false≢true (sym c.if-is_root_of_order.false
            ∙ c.is_root_of_order.ensures.1 (omega arith, subst (λ g. IsRootOfOrder m g n) (sym c.powm-g.ensures) by_x))
        | inr other ↦ c.bases.invariant.tried y low (omega (arith, high, other)) is
      ];
    }
