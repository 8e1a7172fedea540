use Rattle.std.proofs.Common.{◌≡◌, ◌%◌, rules, arith, Some, ap, sym, ◌∙◌}
use Rattle.std.proofs.lemmas.Bool.{cond-false, ne_eqb}
use Rattle.std.proofs.lemmas.Int.{to_z-of_z}
use Rattle.std.specs.Int.{w8}
use mir.Val.{SFits}
use Rattle.modular_bench.specs.Steps.{symbol_number}
use Rattle.modular_bench.proofs.symbols.subtracted.Goals as goal

pub returns : goal.returns
returns c =
    let fits : SFits w8 c.jacobi_by_subtraction.result = search rules in
    let odd : c.args.m % 2 ≡ 1 = c.requires in
    c.number.ensures
    ∙ ap (λ s. symbol_number (Some s))
    (to_z-of_z w8 c.jacobi_by_subtraction.result fits ∙ c.jacobi_by_subtraction.ensures)
    ∙ ap symbol_number (sym (cond-false _ _ _ (ne_eqb (c.args.m % 2) 0 (λ e. omega arith))))
