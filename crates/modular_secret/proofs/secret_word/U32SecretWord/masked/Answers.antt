use Rattle.std.proofs.Common.{arith}
use Rattle.modular_secret.proofs.Masks.{and_all}
use Rattle.modular_secret.proofs.secret_word.U32SecretWord.masked.Goals as goal

pub returns-clause-all : goal.returns-clause-all
returns-clause-all c all = and_all 32 c.args.self c.args.mask (omega arith) all
