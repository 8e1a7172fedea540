-- Lemmas on the parts of a text between its commas, and on what they denote.
use Rattle.std.proofs.Common.{◌≡◌, ◌≢◌, ℕ, ◌<◌, List, [], ◌∷◌, ◌==◌, Option, Some, None, MatchOption, Bor}
use Rattle.std.proofs.Common.{length, get_or, false, arith, subst, sym, ◌∙◌, ap, refl}
use Rattle.std.specs.List.{join_with_byte}
use Rattle.std.proofs.lemmas.List.{get_or_default}
use Rattle.std.proofs.lemmas.Str.Pattern.{IsSplitOnceResult, split_once_first, split_parts}
use Rattle.std.proofs.lemmas.Str.Parse.{digit_at}
use Rattle.std.proofs.lemmas.List.Splits.{slice_split_first, slice_split_none, join_with_byte-slice_split}
use Rattle.std.proofs.lemmas.Bool.Decides.{nat_tests}
use Rattle.modular_ring.specs.declared.ring.RingCommand.{RingCommand}
use Rattle.modular_ring.specs.declared.ring.RingCommand.TheVariants.{Load}
use Rattle.num_modular.specs.Words.{IsNumberText, AreNumberTexts, IsReadAs, numbers_of, parts}

not_comma : (b : ℕ) → b ≢ 44 → (b == 44) ≡ false
not_comma b h = grind (arith, nat_tests)

-- a text without a comma is its only part
commaless_text_is_one_part : (text : List ℕ) → ((i : ℕ) → i < length text → get_or text i 0 ≢ 44)
    → parts text ≡ text ∷ []
commaless_text_is_one_part text none =
    slice_split_none (λ b. b == 44) text
    (λ i d below. not_comma (get_or text i d) (λ e. none i below (sym (get_or_default text i d 0 below) ∙ e)))

-- what a cut at the first comma says of the parts
pub first_comma_splits_parts : (text : List ℕ) (found : Option (Bor (List ℕ) × Bor (List ℕ)))
    → IsSplitOnceResult 44 text found
    → MatchOption found (parts text ≡ text ∷ []) (λ p. parts text ≡ p.0.now ∷ parts p.1.now)
first_comma_splits_parts text None h = commaless_text_is_one_part text (split_parts 44 text None h (omega arith))
first_comma_splits_parts text (Some p) h =
    let first = split_once_first 44 text (Some p) h (omega arith) in
    rw (first.1, first.2) (slice_split_first (λ b. b == 44) text 0 first.0)

-- a numeral has no comma
pub last_text : (text : List ℕ) (n : ℕ) → IsNumberText text n → AreNumberTexts (parts text) (n ∷ [])
last_text text n h =
    let e : parts text ≡ text ∷ [] = commaless_text_is_one_part text (λ i below. let d =
    digit_at text i h.numeral.1 below in omega arith) in
    rw e (h, tt)

single_part_is_number_text : (text : List ℕ) (n : ℕ) (ps : List (List ℕ)) → parts text ≡ ps
    → AreNumberTexts ps (n ∷ []) → IsNumberText text n
single_part_is_number_text text n [] e h = absurd h
single_part_is_number_text text n (t ∷ []) e h =
    let same : t ≡ text = ap (join_with_byte 44) (sym e) ∙ join_with_byte-slice_split 44 text in
    subst (λ u. IsNumberText u n) same h.0
single_part_is_number_text text n (t ∷ u ∷ us) e h = absurd h.1

pub last_number : (text : List ℕ) (n : ℕ) → AreNumberTexts (parts text) (n ∷ []) → IsNumberText text n
last_number text n h = single_part_is_number_text text n (parts text) refl h

-- numbers before and after the first comma
pub read_more : (text : List ℕ) (r : ℕ) (rest : List ℕ) (ns : List ℕ) → IsReadAs text r rest
    → AreNumberTexts (parts rest) ns → AreNumberTexts (parts text) (r ∷ ns)
read_more text r rest ns h more = rw h.split (h.number, more)

pub read_rest : (text : List ℕ) (r s : ℕ) (rest : List ℕ) (ns : List ℕ) → IsReadAs text r rest
    → AreNumberTexts (parts text) (s ∷ ns) → AreNumberTexts (parts rest) ns
read_rest text r s rest ns h all = (rw h.split at all).1

-- a command has numbers
pub no_numbers : (command : RingCommand ℕ) → AreNumberTexts [] (numbers_of command) → ⊥
no_numbers (Load dst n) h = h
no_numbers _ h = h
