use Rattle.num_modular.specs.Callers.{◌≤◌, ℕ, refl, arith, length, entry}
use Rattle.std.proofs.Common.{rules, List}
use Rattle.ring_codes.proofs.Symbols.{are_chosen}
use Rattle.ring_codes.specs.Erasure.{IsFault}
use Rattle.ring_codes.specs.declared.erasure.RestoreError.{RestoreError}
use Rattle.ring_codes.specs.declared.erasure.RestoreError.TheVariants.{TooFewSymbols, PlaceOutOfRange, PlaceTwice}
use Rattle.ring_codes.specs.declared.erasure.RestoreError.TheVariants.{PointsDontFit}
use Rattle.ring_correction.specs.Correction.{ArePlacesAtFault}
use Rattle.ring_correction.proofs.correction.locate.Goals as goal

-- a fault of s places, of which there are at least k
places_are_at_fault : (m k n : ℕ) (x : ℕ → ℕ) (places : List ℕ) (e : RestoreError) → k ≤ length places
    → IsFault m (length places) n x places e → ArePlacesAtFault m k n x places e
places_are_at_fault m k n x places TooFewSymbols enough h = absurd (omega arith)
places_are_at_fault m k n x places PlaceOutOfRange enough h = (enough, h)
places_are_at_fault m k n x places PlaceTwice enough h = (enough, h)
places_are_at_fault m k n x places PointsDontFit enough h = (enough, h)

pub returns-in-Err : goal.returns-in-Err
returns-in-Err g c =
    let ring = g.R.Reducer in let m = ring.modulus c.args._r.now in
    let x = entry g.T.RingWord.number ring.value m c.args.points.now in
    places_are_at_fault m c.args.k _ x _ _ c.if-places-k.false (rw c.requires.room at (c.in-Err.ensures.fault m x))

pub returns-in-Ok : goal.returns-in-Ok
returns-in-Ok g c =
    let ring = g.R.Reducer in
    let is = are_chosen g.T.RingWord.number ring.value (ring.modulus c.args._r.now) _ (length c.args.places.now)
    c.args.points.now
    c.choose_points.new.chosen c.args.places.now c.choose_points.auto.chosen c.requires.room
    (c.in-Ok.ensures.places refl)
    (c.in-Ok.ensures.chosen refl) in record {
      enough = c.if-places-k.false;
      right = is.right;
      checked = search rules;
      pairs = is.count;
      same = is.same;
    }
