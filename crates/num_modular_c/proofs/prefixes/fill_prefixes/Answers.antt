use Rattle.std.proofs.Common.{◌≡◌, ℕ, ◌%◌, ◌^◌, List, slice_index, get_or, arith, ap, sym, ◌∙◌, refl}
use Rattle.std.proofs.Math.Nat.{pow-zero}
use Rattle.std.proofs.lemmas.List.{length-set}
use Rattle.num_modular.specs.Integers.{residue_of}
use Rattle.num_modular.specs.Mersenne.{mersenne}
use Rattle.num_modular.specs.Sums.{polynomial_highest_first}
use Rattle.mersenne_hash.proofs.Concatenations.{no_coefficient, horner_step_is_residue}
use Rattle.mersenne_hash.proofs.Written.{one_more_power}
use Rattle.num_modular_c.proofs.HashLists.{first_word, more_words}
use Rattle.num_modular_c.proofs.prefixes.fill_prefixes.Goals as goal

pub places-init : goal.places-init
places-init c =
    let p : ℕ = mersenne 61 1 in let x = residue_of c.args.base in
    let hash : ℕ → ℕ = λ k. polynomial_highest_first k (slice_index c.args.text.now) x % p in
    let none : 0 ≡ hash 0 = ap (λ v. v % p) (sym (no_coefficient (slice_index c.args.text.now) x)) in
    let one : 1 ≡ x ^ 0 % p = ap (λ v. v % p) (sym (pow-zero x)) in
    record {
      value = c.convert-value.ensures.residue ∙ none;
      power = c.convert-power.ensures.residue ∙ one;
      entries = length-set _ _ _ ∙ c.requires.hashes_room;
      exponents = length-set _ _ _ ∙ c.requires.powers_room;
      hashed = first_word c.args.hashes.now 0 hash (omega (arith, c.requires.hashes_room)) none;
      raised = first_word c.args.powers.now 1 (λ k. x ^ k % p) (omega (arith, c.requires.powers_room)) one;
    }

pub places-preserved : goal.places-preserved
places-preserved c =
    let p : ℕ = mersenne 61 1 in let x = residue_of c.args.base in
    let text : List ℕ = c.args.text.now in let i : ℕ = c.places.i in
    let hash : ℕ → ℕ = λ k. polynomial_highest_first k (slice_index text) x % p in
    let before = c.places.invariant in
    let value = c.add-value.ensures.residue
    ∙ horner_step_is_residue c.range_laws.ensures.horner p i (slice_index text) x (get_or text i 0) _ _ refl
    before.value
    c.mul.ensures.residue in
    let power = c.mul-raised.ensures.residue ∙ one_more_power p x i _ _ before.power refl in
    record {
      value = value;
      power = power;
      entries = length-set _ _ _ ∙ before.entries;
      exponents = length-set _ _ _ ∙ before.exponents;
      hashed = more_words c.places.hashes i _ hash (omega (arith, before.entries)) before.hashed
          (c.residue-hash.ensures ∙ value);
      raised = more_words c.places.powers i _ (λ k. x ^ k % p) (omega (arith, before.exponents)) before.raised
          (c.residue-word.ensures ∙ power);
    }
