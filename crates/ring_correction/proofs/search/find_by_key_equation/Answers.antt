use Rattle.num_modular.specs.Callers.{◌∙◌, sym}
use Rattle.std.proofs.Common.{rules}
use Rattle.std.proofs.lemmas.Bool.{false≢true}
use Rattle.ring_correction.proofs.search.find_by_key_equation.Goals as goal

pub returns-in-Ok-false : goal.returns-in-Ok-false
returns-in-Ok-false g c = (
  c.requires.fit,
  λ sent near. false≢true (sym c.in-Ok-false.field-0-test ∙ (c.in-Ok-false.ensures.message sent near).0),
)

pub returns-in-Ok-true : goal.returns-in-Ok-true
returns-in-Ok-true g c = record {
  fit = c.requires.fit;
  checked = c.in-Ok-true.ensures.checked c.in-Ok-true.field-0-test;
  forms = c.evaluate_each.ensures.checked;
  encoding = search rules;
  only = λ sent near i l. (c.in-Ok-true.ensures.message sent near).1 i l;
}
