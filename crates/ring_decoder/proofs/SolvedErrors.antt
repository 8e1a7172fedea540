-- Errors at the chosen places that have the syndromes are those that are sought.
use Rattle.std.proofs.Common.{◌≡◌, ℕ, ◌*◌, ◌%◌, ◌<◌, List, sym, ◌∙◌, arith, refl}
use Rattle.std.proofs.lemmas.Bool.{cases_eq}
use Rattle.num_modular.specs.NumberLaws.{mod_of_eq, residue_of, mod_sym, mod_trans}
use Rattle.ring_decoder.proofs.ChosenPlaces.{zeros_before, chosen_zero, chosen_nonzero, chosen_values_exist}
use Rattle.ring_decoder.proofs.ChosenPlaces.{AreChosenPoints}
use Rattle.ring_decoder.proofs.ChosenPlaces.{chosen_powers}
use Rattle.ring_decoder.proofs.LostPlaces.{lost_or_listed, without_lost, without_listed, distance_alike}
use Rattle.ring_decoder.specs.Corrector.{without}
use Rattle.ring_decoder.specs.ErrorPatterns.{zeros, spread, Covers, listed_weight}
use Rattle.ring_decoder.specs.PowerSums.{ArePowerSums}

-- from the chosen places to all, and back
pub solved_sums : {n q : ℕ} {z x v p w : ℕ → ℕ} (m t : ℕ) (e d s : ℕ → ℕ) → AreChosenPoints n q z x v p w
    → ((i : ℕ) → i < n → e i ≡ spread z d i) → ArePowerSums m t q p (λ k. w k * d k) s
    → ArePowerSums m t n x (λ i. v i * e i) s
solved_sums {n} {q} {z} m t e d s chosen is sums = record {
  sum = λ h l. mod_trans (sums.sum h l) (chosen_powers m h e d chosen
      (record { at = λ i b here. sym (is i b ∙ chosen_zero (z i) (d (zeros i z)) 0 here) })
      (λ i b other. mod_of_eq (is i b ∙ chosen_nonzero (z i) (d (zeros i z)) 0 other)));
}

pub covered_sums : {n q : ℕ} {z x v p w : ℕ → ℕ} (m t : ℕ) (e s : ℕ → ℕ) → AreChosenPoints n q z x v p w
    → Covers m t n z e → ArePowerSums m t n x (λ i. v i * e i) s
    → ArePowerSums m t q p (λ k. w k * (chosen_values_exist n z e).0 k) s
covered_sums {n} {q} {z} m t e s chosen covers sums = record {
  sum = λ h l. mod_trans (sums.sum h l)
      (mod_sym (chosen_powers m h e (chosen_values_exist n z e).0 chosen (chosen_values_exist n z e).1 covers.none));
}

-- the errors that were spread are those that are covered, and as many of them aren't 0
pub covered_weight : {n q : ℕ} {z x v p w : ℕ → ℕ} (m t : ℕ) (lost : List ℕ) (e d f : ℕ → ℕ)
    → AreChosenPoints n q z x v p w → Covers m t n z e → ((k : ℕ) → k < q → d k ≡ (chosen_values_exist n z e).0 k % m)
    → ((i : ℕ) → i < n → f i ≡ spread z d i) → listed_weight m n lost f ≡ listed_weight m n lost e
covered_weight {n} {q} {z} m t lost e d f chosen covers solved is =
    distance_alike n (λ i. without lost f i % m) (λ i. 0) (λ i. without lost e i % m) (λ i. 0)
    (λ i l.
    let at = (chosen_values_exist n z e).1.at i l in let count = chosen.count in
    let residue : e i % m % m ≡ e i % m = (residue_of (e i)).same in let before = zeros_before i n z l in
    let here = chosen_zero (z i) (d (zeros i z)) 0 in let other = chosen_nonzero (z i) (d (zeros i z)) 0 in
    let same : f i % m ≡ e i % m =
    grind (
      arith,
      cases_eq (z i) 0,
      is i l,
      here,
      other,
      solved (zeros i z),
      at,
      before,
      count,
      residue,
      covers.none i
          l,
    ) in
    grind (arith, lost_or_listed lost i, without_lost lost, without_listed lost, same)) (λ i l. refl)
