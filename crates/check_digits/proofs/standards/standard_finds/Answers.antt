use Rattle.std.proofs.Common.{refl}
use Rattle.check_digits.specs.Standards.{from_right}
use Rattle.check_digits.proofs.Finds.{changes_tested, exchanges_tested, fives_tested, of_iban}
use Rattle.check_digits.proofs.LuhnDigits.{luhn_changes, luhn_exchanges}
use Rattle.check_digits.proofs.Neighbours.{neighbours_told}
use Rattle.check_digits.proofs.standards.standard_finds.Goals as goal

pub returns-clause-changes_modulo_11 : goal.returns-clause-changes_modulo_11
unfolding from_right
returns-clause-changes_modulo_11 c = (changes_tested _ 9 refl, changes_tested _ 9 refl, changes_tested _ 9 refl)

pub returns-clause-changes_modulo_10 : goal.returns-clause-changes_modulo_10
unfolding from_right
returns-clause-changes_modulo_10 c = (
  changes_tested _ 3 refl,
  changes_tested _ 3 refl,
  changes_tested _ 3 refl,
  changes_tested _ 3 refl,
  changes_tested _ 3 refl,
)

pub returns-clause-exchanges : goal.returns-clause-exchanges
unfolding from_right
returns-clause-exchanges c =
    (exchanges_tested _ 9 refl refl, exchanges_tested _ 9 refl refl, exchanges_tested _ 9 refl refl)

pub returns-clause-fives : goal.returns-clause-fives
unfolding from_right
returns-clause-fives c = (
  fives_tested _ _ _ _ refl refl,
  fives_tested _ _ _ _ refl refl,
  fives_tested _ _ _ _ refl refl,
  fives_tested _ _ _ _ refl refl,
  fives_tested _ _ _ _ refl refl,
)

pub returns-clause-iban : goal.returns-clause-iban
returns-clause-iban c n most = of_iban n most

pub returns-clause-neighbours : goal.returns-clause-neighbours
returns-clause-neighbours c = neighbours_told

pub returns-clause-luhn : goal.returns-clause-luhn
returns-clause-luhn c = (luhn_changes, luhn_exchanges)
