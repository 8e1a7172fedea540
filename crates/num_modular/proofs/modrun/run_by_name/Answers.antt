use Rattle.std.proofs.Common.{refl}
use Rattle.num_modular.proofs.ProgramLemmas.{answer_all, refusal_answers_unreadable_words, if_ok}
use Rattle.num_modular.proofs.modrun.run_by_name.Goals as goal

pub returns-in_default : goal.returns-in_default
returns-in_default g c =
    if_ok c.refuse.result _ _ c.refuse.ensures (refusal_answers_unreadable_words c.args.words.now _ _ _
    c.in_default.ensures refl)

pub returns-in-Vanilla : goal.returns-in-Vanilla
returns-in-Vanilla g c =
    if_ok c.run_over.result _ _ c.run_over.ensures (answer_all c.args.words.now c.in-Some.reducer c.in-Some.modulus _
    c.in-Some.commands.now _ _ _ c.in-Some.ensures c.new.ensures)

pub returns-in-PreMul : goal.returns-in-PreMul
returns-in-PreMul g c =
    if_ok c.run_over-in-PreMul.result _ _ c.run_over-in-PreMul.ensures (answer_all c.args.words.now c.in-Some.reducer
    c.in-Some.modulus _ c.in-Some.commands.now _ _ _ c.in-Some.ensures c.new-in-PreMul.ensures)

pub returns-in-Montgomery : goal.returns-in-Montgomery
returns-in-Montgomery g c =
    if_ok c.run_over-in-Montgomery.result _ _ c.run_over-in-Montgomery.ensures (answer_all c.args.words.now
    c.in-Some.reducer c.in-Some.modulus _ c.in-Some.commands.now _ _ _ c.in-Some.ensures c.new-in-Montgomery.ensures)
