use Rattle.std.proofs.Common.{ℕ, ◌+◌, ◌*◌, ◌%◌, ◌<◌, lit<, ap, ◌∙◌}
use Rattle.num_modular.specs.Congruence.{Congruent}
use Rattle.num_modular.specs.Integers.{residue_of as residue_in}
use Rattle.num_modular.specs.Mersenne.{mersenne}
use Rattle.num_modular.specs.NumberLaws.{mod_add, mod_mul, mod_refl, mod_sym, mod_trans, mod_of_eq, residue_of}
use Rattle.num_modular_c.proofs.prefixes.part_hash.Goals as goal

pub returns : goal.returns
returns c =
    let p : ℕ = mersenne 61 1 in
    let positive : 0 < p = lit< tt in
    let product : ℕ = residue_in c.mul.result in
    let difference : ℕ = residue_in c.sub.result in
    let same = c.residue.ensures in
    let product_of : Congruent p product (c.args.start * c.args.power) =
    mod_trans (mod_trans (mod_of_eq c.mul.ensures.residue) (residue_of _))
    (mod_mul (mod_trans (mod_of_eq c.base-first.ensures) (residue_of c.args.start))
    (mod_trans (mod_of_eq c.base-raised.ensures) (residue_of c.args.power))) in
    let sum : Congruent p (difference + product) c.args.whole =
    mod_trans (record {
      same = ap (λ v. (v + product) % p) c.sub.ensures.residue
          ∙ c.residue_laws.ensures.difference p _ product positive;
    })
    (mod_trans (mod_of_eq c.base-end.ensures) (residue_of c.args.whole)) in
    record {
      below = rw (same, c.sub.ensures.residue) (c.residue_laws.ensures.residue p _ positive).below;
      sum = ap (λ v. (v + c.args.start * c.args.power) % p) same
          ∙ (mod_trans (mod_add (mod_refl difference) (mod_sym product_of)) sum).same;
    }
