use Rattle.std.proofs.Common.{◌≡◌, ◌+◌, ◌*◌, ◌%◌, pos, ◌-ℤ◌, ap, subst, ◌∙◌}
use Rattle.modular_reduced.specs.Integers.{residue_of}
use Rattle.modular_word.specs.Residues.{residue}
use Rattle.modular_ring.specs.SystemLaws.{digit_right}
use Rattle.modular_ring.proofs.residues.next_digit.Goals as goal

pub returns-clause-right : goal.returns-clause-right
returns-clause-right c =
    let m = c.args.m in
    let modulus = c.new-known.ensures.modulus in
    let of_convert = c.convert.ensures.modulus ∙ modulus in
    let weight = c.convert-weight.ensures.residue ∙ ap (λ n. c.args.range % m % n) modulus in
    let quotient =
    subst (λ n. (residue_of c.div.result * residue_of c.convert-weight.result) % n ≡ residue_of c.sub.result)
    (c.sub.ensures.modulus ∙ of_convert) c.div.ensures.1.product in
    let converted = c.convert.ensures.residue ∙ ap (λ n. c.args.residue % n) modulus in
    let difference =
    c.sub.ensures.residue
    ∙ ap (λ n. residue n (pos (residue_of c.convert.result) -ℤ pos (residue_of c.new-known.result))) of_convert
    ∙ ap (λ n. residue m (pos n -ℤ pos (residue_of c.new-known.result))) converted in
    ap (λ t. (c.args.number + c.args.range * t) % m) c.residue.ensures
    ∙ digit_right m c.args.number c.args.range (residue_of c.div.result) c.args.residue
    (residue_of c.sub.result) _ _ c.new-known.ensures.residue weight quotient
    (ap (λ n. (n + residue_of c.new-known.result) % m) difference
    ∙ c.residue_laws.ensures.difference m (c.args.residue % m) _ c.requires.modulus)
