-- Lists that the characters of a text give.
use Rattle.std.proofs.Common.{◌≡◌, ◌↔◌, ℕ, zero, suc, ◌+◌, ◌-◌, ◌/◌, ◌%◌, ◌<◌, ◌≤◌}
use Rattle.std.proofs.Common.{List, [], ◌∷◌, length, length-append, get_or, take, ap, ◌∙◌, refl, arith}
use Rattle.std.proofs.Common.{◌++◌, inl, inr}
use Rattle.std.proofs.lemmas.Bool.{cases_eq, eq-eqb, ne_eqb}
use Rattle.std.proofs.lemmas.List.{take_all}
use Rattle.std.proofs.Math.Nat.{le_refl}
use Rattle.std.specs.List.{flat_map}
use Rattle.check_digits.proofs.Ibans.{more_digits}
use Rattle.check_digits.specs.Ibans.{unspaced, without_spaces, IsGrouped}

-- what one more character gives has room in the whole
pub fits_before : (f : ℕ → List ℕ) (text : List ℕ) (i : ℕ) → i < length text
    → length (flat_map f (take i text)) + length (f (get_or text i 0)) ≤ length (flat_map f text)
fits_before f [] i l = absurd (omega (arith, l))
fits_before f (c ∷ cs) zero l = let e = length-append (f c) (flat_map f cs) in omega (arith, e)
fits_before f (c ∷ cs) (suc i) l = search (arith, length-append, fits_before f cs i (omega (arith, l)))

more_unspaced : (text : List ℕ) (n : ℕ) → n < length text
    → without_spaces (take (suc n) text) ≡ without_spaces (take n text) ++ unspaced (get_or text n 0)
more_unspaced text n l =
    let one : suc n ≡ n + 1 = omega arith in ap (λ k. without_spaces (take k text)) one ∙ more_digits unspaced text n l

-- the characters of groups of four
pub grouped_length : (text : List ℕ) (n : ℕ) → ((i : ℕ) → i < length text → (get_or text i 0 ≡ 32) ↔ (i % 5 ≡ 4))
    → n ≤ length text → length (without_spaces (take n text)) ≡ n - n / 5
grouped_length text zero spaces l = refl
grouped_length text (suc n) spaces l =
    let before = grouped_length text n spaces (omega arith) in
    let c = get_or text n 0 in
    let e = ap length (more_unspaced text n l) ∙ length-append (without_spaces (take n text)) (unspaced c) in
    elim (cases_eq (n % 5) 4) [
      | inl s ↦ search (arith, eq-eqb, (spaces n l).1 s)
      | inr s ↦
          let one : length (unspaced c) ≡ 1 = rw (ne_eqb c 32 (λ is. s ((spaces n l).0 is))) refl in
          omega (arith, e, before, one, s)
    ]

pub ungrouped_length : (text : List ℕ) → IsGrouped text → length (without_spaces text) ≡ length text - length text / 5
ungrouped_length text grouped =
    let told = grouped_length text (length text) grouped.spaces (le_refl (length text)) in search (arith, take_all)
