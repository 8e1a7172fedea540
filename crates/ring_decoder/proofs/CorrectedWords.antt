-- Words, and the errors that explain their syndromes.
use Rattle.std.proofs.Common.{◌≡◌, ◌≢◌, ℕ, ◌+◌, ◌-◌, ◌*◌, ◌%◌, ◌<◌, ◌≤◌, ◌↔◌, pos, ◌-ℤ◌, mod-lt}
use Rattle.std.proofs.Common.{List, All, length, sym, ◌∙◌, arith, refl, mod-eq_of_lt}
use Rattle.std.proofs.lemmas.Bool.{cases_lt}
use Rattle.num_modular.specs.Congruence.{Congruent}
use Rattle.num_modular.specs.NumberLaws.{mod_of_eq, mod_sym, mod_trans, mod_add, equal_below}
use Rattle.num_modular.specs.Polynomials.{HaveUnitDifferences, polynomial_at}
use Rattle.num_modular.specs.Residues.{residue}
use Rattle.ring_codes.proofs.Congruences.{mod_of_combination, mod_of_difference}
use Rattle.ring_codes.proofs.Distances.{no_distance, words_apart}
use Rattle.ring_codes.proofs.Lagrange.{fit_from_all}
use Rattle.ring_codes.specs.Erasure.{IsErasureCodeword}
use Rattle.ring_codes.specs.declared.erasure.errors.CorrectError.{CorrectError}
use Rattle.ring_codes.specs.declared.erasure.errors.CorrectError.TheVariants.{Restore, TooManyErrors, NoInverse}
use Rattle.ring_decoder.proofs.ChosenPlaces.{zeros_others}
use Rattle.ring_decoder.proofs.DualCode.{sums_added, codeword_without_syndromes, codeword_by_syndromes}
use Rattle.ring_decoder.proofs.LocatorSums.{none_of, residue_none}
use Rattle.ring_decoder.proofs.LostPlaces.{without_listed, few_hidden, distance_sum, fewer_differences, same_at}
use Rattle.ring_decoder.proofs.LostPlaces.{listed_none, value_without_lost_is_zero, without_alike}
use Rattle.ring_decoder.specs.Corrector.{without, listed_distance, AreLost, IsNearWord, IsCorrectedWord}
use Rattle.ring_decoder.specs.Corrector.{IsCorrectorFault}
use Rattle.ring_decoder.specs.ErrorPatterns.{zeros, listed_weight, IsNearPattern, IsSolution, IsPatternFault}
use Rattle.ring_decoder.specs.Syndromes.{AreWeights, AreSyndromes}

-- modulo 1 each word is of the code
pub modulus_is_not_one : (m k n : ℕ) (x y : ℕ → ℕ) → ((i : ℕ) → i < n → y i < m) → (IsErasureCodeword m k n x y → ⊥)
    → m ≢ 1
modulus_is_not_one m k n x y below other one =
    let positive : 0 < m = omega (arith, one) in
    other (x, record { symbol = λ i l. omega (arith, below i l, mod-lt (polynomial_at k x (x i)) positive, one) })

pub fit_of_weights : (m n : ℕ) (x v : ℕ → ℕ) → AreWeights m n x v → HaveUnitDifferences m n x
fit_of_weights m n x v weights = fit_from_all m n x (λ i l. (v i, weights i l))

-- a word of the code that is near is the only one
only_near : {T : Type 0} (P : T → Type 0) (entries : List T → ℕ → ℕ) (m k errors : ℕ) (points : List T) (lost : List ℕ)
    (old new : List T) → HaveUnitDifferences m (length points) (entries points) → AreLost k (length points) lost
    → All P new → IsErasureCodeword m k (length points) (entries points) (entries new)
    → errors ≡ listed_distance (length points) lost (entries old) (entries new)
    → 2 * errors ≤ length points - k - length lost → IsCorrectedWord P entries m k points lost old new errors
only_near P entries m k errors points lost old new fit places checked is counted small =
    let n : ℕ = length points in let y = entries old in let w = entries new in let enough = places.enough in
    record {
      places = places;
      checked = checked;
      codeword = is;
      count = counted;
      few = small;
      only = λ u is_u near i l.
          let apart = words_apart m k n (entries points) w u (omega (arith, enough)) fit is is_u in
          let between = distance_sum n (without lost y) (without lost w) (without lost u) in
          let hidden = few_hidden n lost w u in
          grind (arith, cases_lt, apart, between, hidden, enough, counted, small, near, same_at n i w u);
    }

-- the difference of two words is 0 where they are the same
fewer_wrong : (m n : ℕ) (lost : List ℕ) (y d u : ℕ → ℕ) → ((i : ℕ) → i < n → Congruent m (d i + u i) (y i))
    → listed_weight m n lost d ≤ listed_distance n lost y u
fewer_wrong m n lost y d u each =
    fewer_differences n (λ i. without lost d i % m) (λ i. 0) (without lost y) (without lost u)
    (λ i l same. value_without_lost_is_zero m lost d i (λ listed.
    let equal : y i ≡ u i = sym (without_listed lost y i listed) ∙ same ∙ without_listed lost u i listed in
    residue_none m (d i) (mod_of_combination (each i l) (omega (arith, equal)))))

-- a word of the code that is near, less the word: errors with the word's syndromes, no more of them
pattern_of : {m k n t : ℕ} {x v y s : ℕ → ℕ} (lost : List ℕ) → AreSyndromes m k n t x v y s → (u : ℕ → ℕ)
    → IsErasureCodeword m k n x u → IsNearWord k n lost y u
    → (d : ℕ → ℕ) × IsNearPattern m t n x v lost s d × (listed_weight m n lost d ≤ listed_distance n lost y u)
pattern_of {m} {k} {n} {t} {x} {v} {y} {s} lost known u is near =
    let d : ℕ → ℕ = λ i. residue m (pos (y i) -ℤ pos (u i)) in
    let each : (i : ℕ) → i < n → Congruent m (d i + u i) (y i) = λ i l. mod_of_difference (u i) known.positive refl in
    let none = codeword_without_syndromes m k n x v u known.positive known.few (fit_of_weights m n x v known.weights)
    known.weights is in
    let fewer = fewer_wrong m n lost y d u each in let count = known.count in (
      d,
      record {
        sums = record {
          sum = λ h l. mod_of_combination
              (mod_add (known.sums.sum h l) (mod_add (mod_sym (sums_added m n h x v d u y each))
              (mod_sym (none.sum h (omega (arith, l, count)))))) (omega arith);
        };
        few = omega (arith, fewer, near, count);
      },
      fewer,
    )

-- a word is of the code exactly where all its syndromes are 0
pub codeword_by_zeros : {m k n t : ℕ} {x v y s : ℕ → ℕ} → AreSyndromes m k n t x v y s
    → zeros t s ≡ t ↔ IsErasureCodeword m k n x y
codeword_by_zeros {m} {k} {n} {t} {x} {v} {y} {s} known =
    let fit = fit_of_weights m n x v known.weights in let count = known.count in (
      λ all. codeword_by_syndromes m k n x v y known.positive known.few fit known.weights known.below (record {
        sum = λ h l.
            let b : h < t = omega (arith, l, count) in
            mod_trans (mod_of_eq (sym (same_at t h s (λ i. 0) (omega (arith, zeros_others t s, all)) b)))
            (known.sums.sum h b);
      }),
      λ is.
          let none = codeword_without_syndromes m k n x v y known.positive known.few fit known.weights is in
          omega (
            arith,
            zeros_others t s,
            no_distance t s (λ i. 0) (λ h l. sym (mod-eq_of_lt (known.small h l))
                ∙ residue_none m (s h) (mod_trans (known.sums.sum h l)
                (mod_sym (none.sum h (omega (arith, l, count)))))),
          ),
    )

-- a word of the code
pub right_already : {T : Type 0} (P : T → Type 0) (entries : List T → ℕ → ℕ) (m k : ℕ) (points : List T) (lost : List ℕ)
    (old : List T) (v : ℕ → ℕ) → AreWeights m (length points) (entries points) v → AreLost k (length points) lost
    → All P old → IsErasureCodeword m k (length points) (entries points) (entries old)
    → IsCorrectedWord P entries m k points lost old old 0
right_already P entries m k points lost old v weights places checked is =
    let y = without lost (entries old) in
    only_near P entries m k 0 points lost old old (fit_of_weights m (length points) (entries points) v weights) places
    checked
    is (sym (no_distance (length points) y y (λ i l. refl))) (omega arith)

-- a word less errors that have its syndromes
pub right_word : {T : Type 0} (P : T → Type 0) (entries : List T → ℕ → ℕ) (m k t wrong : ℕ) (points : List T)
    (lost : List ℕ)
    (old new : List T) (v s e : ℕ → ℕ) → AreSyndromes m k (length points) t (entries points) v (entries old) s
    → AreLost k (length points) lost → All P new → ((i : ℕ) → i < length points → entries new i < m)
    → IsSolution m t (length points) (entries points) v lost s e wrong
    → ((i : ℕ) → i < length points → Congruent m (entries new i + e i) (entries old i))
    → IsCorrectedWord P entries m k points lost old new wrong
right_word P entries m k t wrong points lost old new v s e known places checked below solution each =
    let n : ℕ = length points in let x = entries points in let y = entries old in let w = entries new in
    let fit = fit_of_weights m n x v known.weights in let t_is = known.count in
    let is = codeword_by_syndromes m k n x v w known.positive known.few fit known.weights below (record {
      sum = λ h l.
          let b : h < t = omega (arith, l, t_is) in
          mod_of_combination (mod_add (mod_sym (sums_added m n h x v w e y each))
          (mod_add (known.sums.sum h b) (mod_sym (solution.pattern.sums.sum h b)))) (omega arith);
    }) in
    let less = fewer_wrong m n lost y e w (λ i l. mod_of_combination (each i l) (omega arith)) in
    let more = fewer_differences n (without lost y) (without lost w) (λ i. without lost e i % m) (λ i. 0)
    (λ i l same. without_alike lost y w i (λ listed.
    equal_below (known.below i l) (below i l)
    (mod_of_combination (mod_add (mod_sym (each i l)) (none_of m (e i) (listed_none m lost e i listed same)))
    (omega arith)))) in
    let count = solution.count in let few = solution.pattern.few in
    only_near P entries m k wrong points lost old new fit places checked is (omega (arith, count, less, more))
    (omega (arith, count, few, t_is))

-- why there are no errors, as why there is no word
pub fault_of_word : {T : Type 0} (number : T → ℕ) (m k n t : ℕ) (x v y s : ℕ → ℕ) (lost : List ℕ)
    → AreSyndromes m k n t x v y s → AreLost k n lost
    → (e : CorrectError T) → IsPatternFault number m t n x v lost s e → IsCorrectorFault number m k n x lost y e
fault_of_word number m k n t x v y s lost known places (Restore e) fault = absurd fault
fault_of_word number m k n t x v y s lost known places TooManyErrors fault =
    (places, λ u is near. let p = pattern_of lost known u is near in fault p.0 p.1)
fault_of_word number m k n t x v y s lost known places (NoInverse a) fault = (
  places,
  fault.0,
  λ u is near. let p = pattern_of lost known u is near in omega (arith, fault.1 p.0 p.1, p.2),
)
