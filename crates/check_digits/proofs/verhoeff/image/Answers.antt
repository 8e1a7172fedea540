use Rattle.std.proofs.Common.{◌≤◌, sym, subst}
use Rattle.check_digits.specs.Verhoeff.{image}
use Rattle.check_digits.proofs.VerhoeffDigits.{image_read, image_small}
use Rattle.check_digits.proofs.verhoeff.image.Goals as goal

pub returns-clause-value : goal.returns-clause-value
unfolding image
returns-clause-value c = image_read c.args.place c.args.digit c.requires

pub returns-clause-small : goal.returns-clause-small
returns-clause-small c = subst (λ n. n ≤ 9) (sym (returns-clause-value c)) (image_small _ _ c.requires)
