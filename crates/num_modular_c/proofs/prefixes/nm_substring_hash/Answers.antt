use Rattle.std.proofs.Common.{ℕ, ◌-◌, ◌*◌, get_or, arith, refl, ◌∙◌}
use Rattle.num_modular.specs.Mersenne.{mersenne}
use Rattle.num_modular.specs.NumberLaws.{mod_add, mod_refl, residue_of}
use Rattle.mersenne_hash.proofs.Parts.{part_is}
use Rattle.num_modular_c.proofs.prefixes.nm_substring_hash.Goals as goal

pub returns-clause-part : goal.returns-clause-part
returns-clause-part c text x are within part =
    let p : ℕ = mersenne 61 1 in
    let from : ℕ = c.args.from in let to : ℕ = c.args.to in
    let start : ℕ = get_or c.args.hashes.now from 0 in
    let power : ℕ = get_or c.args.powers.now (to - from) 0 in
    let ordered = part.ordered in
    part_is c.range_laws.ensures.horner p from to text x _ _ _ _ _ ordered within (are.hashed to within)
    (are.hashed from (omega (arith, ordered, within))) (are.raised (to - from) (omega (arith, ordered, within))) refl
    ((mod_add (mod_refl c.part_hash.result) (residue_of (start * power))).same ∙ c.part_hash.ensures.sum)
    c.part_hash.ensures.below
