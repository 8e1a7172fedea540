use Rattle.std.proofs.Common.{arith}
use Rattle.modular_secret.proofs.Masks.{negative_of_all}
use Rattle.modular_secret.proofs.secret_word.U16SecretWord.negated.Goals as goal

pub returns-clause-all : goal.returns-clause-all
returns-clause-all c all = omega (arith, negative_of_all 16 c.args.self c.args.mask (omega arith) all)
