use Rattle.std.proofs.Common.{◌≡◌, ◌^◌, length, arith, sym, ◌∙◌}
use Rattle.std.proofs.lemmas.Bool.{false≢true}
use Rattle.std.specs.Int.{trailing_zeros, w64}
use Rattle.modular_plan_passes.proofs.Tables.{half_is_power_of_two}
use Rattle.modular_transform.proofs.PowersOfTwo.{power_by_zeros}
use Rattle.modular_plan_transforms.proofs.PlanTables.{table_of, powers_of}
use Rattle.modular_plan_transforms.proofs.filled.is_table.Goals as goal
use Rattle.modular_plan_transforms.proofs.filled.is_table.Goals.{Start}

-- the length, by its zeros
table_length_is_power : (g : _) (c : Start g) → length c.args.table.now ≡ 2 ^ trailing_zeros w64
    (length c.args.table.now)
table_length_is_power g c =
    power_by_zeros (length c.args.table.now) (half_is_power_of_two c.requires.suits.power_of_two) (omega arith)

pub are_powers-powers-requires-clause-whole : goal.are_powers-powers-requires-clause-whole
are_powers-powers-requires-clause-whole g c =
    table_length_is_power g (goal.at.are_powers-powers-requires-clause-whole g c).Start

pub returns-then-powers : goal.returns-then-powers
returns-then-powers g c = (
  λ t. table_of _ _ _ _ _ _ _ (table_length_is_power g (goal.at.returns-then-powers g c).Start) c.requires.suits
      (c.are_factors.ensures.0 t) (c.are_powers-powers.ensures.0 c.if-powers.true),
  λ is. c.are_factors.ensures.1 is.factors,
)

pub returns-else-powers : goal.returns-else-powers
returns-else-powers g c = (
  λ t. absurd (false≢true (sym c.if-powers.false ∙ t)),
  λ is. c.are_powers-powers.ensures.1
      (powers_of _ _ _ _ _ _ _ (table_length_is_power g (goal.at.returns-else-powers g c).Start) is),
)
