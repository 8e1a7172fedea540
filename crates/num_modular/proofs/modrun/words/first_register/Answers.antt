use Rattle.num_modular.proofs.CommandTexts.{first_comma_splits_parts}
use Rattle.num_modular.proofs.modrun.words.first_register.Goals as goal

pub returns-in_err-first : goal.returns-in_err-first
returns-in_err-first c =
    let whole = rw c.in_err-first.was at (first_comma_splits_parts c.args.text.now c.split_once.result
    c.split_once.ensures.cases) in
    rw c.from_residual.ensures (λ r n ns below all. (rw whole at all).1)

pub returns-in_err-register : goal.returns-in_err-register
returns-in_err-register c =
    let split = rw c.in_ok-first.was at (first_comma_splits_parts c.args.text.now c.split_once.result
    c.split_once.ensures.cases) in
    rw c.from_residual-in_err-register.ensures
    (λ r n ns below all. c.in_err-register.ensures r (below, (rw split at all).0))

pub returns : goal.returns
returns c =
    let split = rw c.in_ok-first.was at (first_comma_splits_parts c.args.text.now c.split_once.result
    c.split_once.ensures.cases) in
    let found = c.in_ok-register.ensures in
    (found.0, record { first = c.in_ok-first.first.now; split = split; number = found.1 })
