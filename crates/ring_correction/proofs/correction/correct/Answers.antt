use Rattle.num_modular.specs.Callers.{◌≡◌, ◌<◌, ◌≤◌, ◌∙◌, ℕ, ◌%◌, ap, sym, refl, arith, length, entry}
use Rattle.num_modular.specs.Polynomials.{polynomial_at, HaveUnitDifferences}
use Rattle.std.proofs.Common.{rules, List, slice_index, take_at}
use Rattle.std.proofs.lemmas.Bool.{cases_lt}
use Rattle.ring_codes.proofs.Distances.{no_distance}
use Rattle.ring_codes.proofs.Singleton.{injection_size_at_most_bound}
use Rattle.ring_codes.proofs.Symbols.{fit_same}
use Rattle.ring_codes.specs.Erasure.{IsEncoding, IsErasureCodeword, ArePlaces}
use Rattle.ring_codes.specs.declared.erasure.errors.CorrectError.{CorrectError}
use Rattle.ring_codes.specs.declared.erasure.errors.CorrectError.TheVariants.{Restore, TooManyErrors, NoInverse}
use Rattle.ring_correction.proofs.NearPairs.{same_word}
use Rattle.ring_decoder.proofs.LostPlaces.{distance_alike}
use Rattle.ring_correction.specs.Correction.{AreFit, AreLocated, IsCorrectFault, IsNear, IsNearMessage, IsSearchFault}
use Rattle.ring_correction.proofs.correction.correct.Goals as goal

-- there are no more places than points
listed_within : (n : ℕ) (places : List ℕ) → ArePlaces (length places) n places → length places ≤ n
listed_within n places right = injection_size_at_most_bound n (length places) (slice_index places) right.within
    (λ a b l k other same. grind (arith, cases_lt))

module _ {T : Type 0} {P : T → Type 0} {entries : List T → ℕ → ℕ} {k : ℕ} {points located : List T} {places : List ℕ}
    (m : ℕ) (at : AreLocated P entries k points places located) where
  -- the points that were copied fit where those at the places do
  fit_places : HaveUnitDifferences m (length located) (entries located) → AreFit m k (length points) (entries points)
      places
  fit_places fit = grind (arith, fit_same)

  -- the symbols at the places of a word of the code, by the points there
  word_located : {sent other : ℕ → ℕ} → IsEncoding m k (length points) (entries points) sent other
      → IsEncoding m k (length places) (entries located) sent (λ j. other (slice_index places j))
  word_located is = grind arith

  -- .. which is near there
  near_located : {sent other : ℕ → ℕ} (y : ℕ → ℕ) → IsEncoding m k (length points) (entries points) sent other
      → IsNear k places y other → IsNearMessage m k (length located) (entries located) y sent
  near_located y is near = grind (arith, distance_alike)

  -- the fault of the search, by the places
  search_fault_is_correction_fault : (number : T → ℕ) (y : ℕ → ℕ) (e : CorrectError T)
      → IsSearchFault number m k (length located) (entries located) y e
      → IsCorrectFault number m k (length points) (entries points) places y e
  search_fault_is_correction_fault number y (Restore e) fault = rw fault.0 (grind (arith, fit_same))
  search_fault_is_correction_fault number y TooManyErrors fault =
      (fit_places fault.0, λ word codeword near. fault.1 codeword.0 (near_located y codeword.1 near))
  search_fault_is_correction_fault number y (NoInverse a) fault = grind (arith, fit_places, word_located)

pub split_at_mut-found-requires : goal.split_at_mut-found-requires
split_at_mut-found-requires g c =
    let within = listed_within _ _ c.in-Ok.ensures.right in let room = c.requires.room in omega (arith, within, room)

pub returns-in-Err-find_message : goal.returns-in-Err-find_message
returns-in-Err-find_message g c =
    search_fault_is_correction_fault _ c.in-Ok.ensures g.T.RingWord.number _ c.in-Err-find_message.error
    c.in-Err-find_message.ensures

pub returns-then-errors-places : goal.returns-then-errors-places
returns-then-errors-places g c =
    let m = g.R.Reducer.modulus c.args.r.now in let entries = entry g.T.RingWord.number g.R.Reducer.value m in
    let y = entries c.args.symbols.now in let places = c.args.places.now in let k = length c.args.message.now in
    let points = c.args.points.now in let same = c.find_message.auto.message in let at = c.in-Ok.ensures in
    let found = c.in-Ok-find_message.ensures in let encoding = rw same at c.fill_word.ensures.encoding in record {
      fit = fit_places m at found.fit;
      checked = search rules;
      forms = search rules;
      encoding = encoding;
      count = c.count_errors-errors.ensures;
      few = omega (arith, same, c.if-errors-places.true);
      none = λ (other, codeword, right).
          let none = no_distance (length places) y (λ j. other (slice_index places j)) right in
          let near : IsNear k places y other = omega (arith, none) in
          let word = same_word encoding codeword.1 (found.only _ (near_located m at y codeword.1 near)) in
          c.count_errors-errors.ensures
          ∙ no_distance (length places) y (λ j. entries c.fill_word.new.word (slice_index places j))
          (λ i l. right i l ∙ sym (word (slice_index places i) (at.right.within i l)));
      only = λ sent other is near.
          let sure = found.only sent (near_located m at y is near) in (same_word encoding is sure, sure);
    }

pub returns-else-errors-places : goal.returns-else-errors-places
returns-else-errors-places g c = (
  fit_places _ c.in-Ok.ensures c.in-Ok-find_message.ensures.fit,
  λ other codeword near.
      let entries = entry g.T.RingWord.number g.R.Reducer.value (g.R.Reducer.modulus c.args.r.now) in
      let y = entries c.args.symbols.now in let places = c.args.places.now in
      let encoding = rw c.find_message.auto.message at c.fill_word.ensures.encoding in
      let word = same_word encoding codeword.1
      (c.in-Ok-find_message.ensures.only codeword.0 (near_located _ c.in-Ok.ensures y codeword.1 near)) in
      let count = c.count_errors-errors.ensures ∙ distance_alike (length places) y
      (λ j. entries c.fill_word.new.word (slice_index places j)) y (λ j. other (slice_index places j)) (λ i l. refl)
      (λ i l. word (slice_index places i) (c.in-Ok.ensures.right.within i l)) in
      let more = c.if-errors-places.false in let same = c.find_message.auto.message in
      omega (arith, count, more, same, near),
)

pub fill_word-requires-clause-kept : goal.fill_word-requires-clause-kept
fill_word-requires-clause-kept g c =
    let entries = entry g.T.RingWord.number g.R.Reducer.value (g.R.Reducer.modulus c.args.r.now) in
    let at = c.in-Ok.ensures in let found = c.in-Ok-find_message.ensures in let pairs = at.pairs in
    let copied = c.copy_from_slice.ensures.after ∙ take_at c.find_message.new.word _ (length c.args.places.now)
    (c.find_message.auto.word ∙ c.split_at_mut-found.ensures.front_len) in
    rw c.find_message.auto.message (record {
      symbol = λ i l. ap (λ list. entries list i) copied ∙ found.encoding.symbol i (omega (arith, l, pairs))
          ∙ rw (at.same i l) refl;
    })
