use Rattle.std.proofs.Common.{sym, subst}
use Rattle.num_modular.specs.Words.{FindsWhere, IsCommandParts}
use Rattle.num_modular.proofs.CommandTexts.{first_comma_splits_parts, no_numbers}
use Rattle.num_modular.proofs.modrun.words.command.Goals as goal

pub returns-in_err-name : goal.returns-in_err-name
returns-in_err-name c =
    let whole = rw c.in_err-name.was at (first_comma_splits_parts c.args.word.now c.split_once.result
    c.split_once.ensures.cases) in
    rw c.from_residual.ensures (λ command h. no_numbers command (rw whole at h).read)

pub returns : goal.returns
returns c =
    let split = rw c.in_ok-name.was at (first_comma_splits_parts c.args.word.now c.split_once.result
    c.split_once.ensures.cases) in
    subst (λ ps. FindsWhere (IsCommandParts ps) c.named_command.result) (sym split) c.named_command.ensures
