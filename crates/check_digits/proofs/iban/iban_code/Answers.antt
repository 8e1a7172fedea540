use Rattle.std.proofs.Common.{refl, arith, rules}
use Rattle.std.proofs.lemmas.List.{get_or-take}
use Rattle.check_digits.proofs.Ibans.{powers_behind, is_code}
use Rattle.check_digits.proofs.iban.iban_code.Goals as goal

pub returns-clause-weights : goal.returns-clause-weights
returns-clause-weights c i h = grind (arith, get_or-take, powers_behind)

pub returns-clause-code : goal.returns-clause-code
returns-clause-code c = is_code _ _ _ _ c.requires (search rules) (returns-clause-weights c) refl refl refl refl
