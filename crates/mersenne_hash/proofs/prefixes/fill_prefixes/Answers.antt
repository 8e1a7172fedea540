use Rattle.std.proofs.Common.{ℕ, ◌%◌, slice_index, arith, ap, sym, ◌∙◌, refl}
use Rattle.std.proofs.Math.Nat.{pow-zero}
use Rattle.std.proofs.lemmas.List.{length-set}
use Rattle.num_modular.specs.Integers.{residue_of}
use Rattle.num_modular.specs.Mersenne.{mersenne}
use Rattle.mersenne_hash.proofs.Concatenations.{no_coefficient, horner_step_is_residue}
use Rattle.mersenne_hash.proofs.Written.{first_written, more_written, one_more_power}
use Rattle.mersenne_hash.proofs.prefixes.fill_prefixes.Goals as goal

pub places-init : goal.places-init
places-init c =
    let p : ℕ = mersenne 61 1 in let x = residue_of c.args.base in
    let value = c.convert-value.ensures.residue ∙ ap (λ v. v % p) (sym (no_coefficient (slice_index _) x)) in
    let power = c.convert-power.ensures.residue ∙ ap (λ v. v % p) (sym (pow-zero x)) in
    record {
      value = value;
      power = power;
      entries = length-set _ _ _ ∙ c.requires.entries;
      exponents = length-set _ _ _ ∙ c.requires.exponents;
      hashed = first_written residue_of _ _ _ (omega arith) value;
      raised = first_written residue_of _ _ _ (omega arith) power;
    }

pub places-preserved : goal.places-preserved
places-preserved c =
    let x = residue_of c.args.base in
    let before = c.places.invariant in
    let value = c.add-value.ensures.residue
    ∙ horner_step_is_residue c.range_laws.ensures.horner _ _ (slice_index _) x _ _ _ refl before.value
    c.mul.ensures.residue in
    let power = c.mul-raised.ensures.residue ∙ one_more_power _ x _ _ _ before.power refl in
    record {
      value = value;
      power = power;
      entries = length-set _ _ _ ∙ before.entries;
      exponents = length-set _ _ _ ∙ before.exponents;
      hashed = more_written residue_of _ _ _ _ (omega (arith, before.entries)) before.hashed value;
      raised = more_written residue_of _ _ _ _ (omega (arith, before.exponents))
          before.raised power;
    }
