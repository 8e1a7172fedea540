-- The computing form is the residue, and no other number is.
use Rattle.std.proofs.Common.{rules, ◌≡◌, sym, ◌∙◌}
use Rattle.modular_word.specs.Residues.{residue}
use Rattle.modular_word.proofs.ResidueLemmas.{residue_is, residue_unique}
use Rattle.modular_word.proofs.plain.residue_of.Goals as goal

pub returns : goal.returns
returns c =
    let same : c.computed_residue.result ≡ residue c.args.m c.args.z = search rules in
    let is = residue_is _ _ c.requires in
    record {
      computed = same;
      is_residue = rw same is;
      unique = λ v other. residue_unique _ _ v _ other is ∙ sym same;
    }
