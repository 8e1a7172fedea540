use Rattle.std.proofs.Common.{ℕ, ◌-◌, ◌/◌, List, length, get_or, arith, refl}
use Rattle.std.proofs.lemmas.Bool.{lt-ltb, ltb-true, false≢true}
use Rattle.num_modular.specs.Systems.{range_of}
use Rattle.residue_numbers.specs.MixedRadix.{mixed_number}
use Rattle.residue_numbers.proofs.MixedRadix.{mixed_within}
use Rattle.residue_numbers.proofs.Signs.{digit_tells, odd_halves_are_low, high_of_negative, sign_is}
use Rattle.residue_numbers.proofs.mixed_radix.System.is_negative.Goals as goal

pub returns-then-digits-place : goal.returns-then-digits-place
returns-then-digits-place c =
    let ms : List ℕ = c.args.self.now.moduli.now in let ds : List ℕ = c.args.digits.now in
    let next : ℕ = c.digits.place - 1 in let half : ℕ = get_or ms next 0 / 2 in let d = get_or ds next 0 in
    let (high, low, more) = digit_tells ms ds c.digits.place next c.requires.digits c.digits.invariant.within
    (omega arith) c.digits.invariant.halves in
    sign_is _ (range_of ms) (mixed_number ms ds) (mixed_within (length ms) ms ds c.requires.digits.below) (
      λ t. high (let above = ltb-true half d t in omega (arith, above)),
      λ h. lt-ltb half d (grind (arith, low, c.if-digits-place.true)),
    )

pub returns-then-self-place-eq0 : goal.returns-then-self-place-eq0
returns-then-self-place-eq0 c =
    let ms : List ℕ = c.args.self.now.moduli.now in let ds : List ℕ = c.args.digits.now in
    let (high, low, more) = digit_tells ms ds c.digits.place (c.digits.place - 1) c.requires.digits
    c.digits.invariant.within (omega arith) c.digits.invariant.halves in
    sign_is _ (range_of ms) (mixed_number ms ds) (mixed_within (length ms) ms ds c.requires.digits.below)
    (λ t. high (omega (arith, c.if-digits-place.false, c.if-self-place-eq0.true)), λ h. refl)

pub digits-preserved : goal.digits-preserved
digits-preserved c =
    let (high, low, more) = digit_tells c.args.self.now.moduli.now c.args.digits.now c.digits.place (c.digits.place - 1)
    c.requires.digits c.digits.invariant.within (omega arith) c.digits.invariant.halves in record {
      within = omega (arith, c.digits.invariant.within);
      halves = more (omega (arith, c.if-digits-place.false, c.if-self-place-eq0.false));
    }

pub returns : goal.returns
returns c =
    let ms : List ℕ = c.args.self.now.moduli.now in let ds : List ℕ = c.args.digits.now in
    let low = odd_halves_are_low ms ds c.digits.place (omega arith) c.digits.invariant.halves in (
      λ t. absurd (false≢true t),
      λ n. let high = high_of_negative (range_of ms) (mixed_number ms ds) n in absurd (omega (arith, high, low)),
    )
