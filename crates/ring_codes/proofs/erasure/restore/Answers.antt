use Rattle.ring_codes.proofs.Names.{slice_index, rules, false≢true, length, entry, refl, subst, arith, IsFault}
use Rattle.ring_codes.proofs.Symbols.{are_chosen, no_fault}
use Rattle.ring_codes.proofs.erasure.restore.Goals as goal

pub returns-in-Err-clause-fault : goal.returns-in-Err-clause-fault
returns-in-Err-clause-fault g c =
    let ring = g.R.Reducer in let m = ring.modulus c.args.r.now in
    let points = c.args.points.now in let x = entry g.T.RingWord.number ring.value m points in
    subst (λ k. IsFault m k (length points) x c.args.places.now c.in-Err.error) c.requires.chosen
    (c.in-Err.ensures.fault m x)

pub returns-in-Err-clause-accepted : goal.returns-in-Err-clause-accepted
returns-in-Err-clause-accepted g c =
    let ring = g.R.Reducer in let m = ring.modulus c.args.r.now in
    let x = entry g.T.RingWord.number ring.value m c.args.points.now in (
      λ t. absurd (false≢true t),
      λ h. absurd (no_fault m (length c.args.message.now) (length c.args.points.now) x c.args.places.now c.in-Err.error
          h.0 h.1
          (returns-in-Err-clause-fault g c)),
    )

pub returns-then-interpolate : goal.returns-then-interpolate
returns-then-interpolate g c =
    let ring = g.R.Reducer in
    let m = ring.modulus c.args.r.now in
    let number = g.T.RingWord.number in
    let k = length c.args.message.now in
    let places = c.args.places.now in
    let is = are_chosen number ring.value m _ k c.args.points.now c.choose_points.new.chosen places
    c.choose_points.auto.chosen
    c.requires.chosen (c.in-Ok.ensures.places refl) (c.in-Ok.ensures.chosen refl) in
    record {
      accepted = ((λ t. (is.right, is.fit.0 (c.if-interpolate.ensures.fit.0 refl))), λ h. refl);
      fault = search rules;
      checked = λ t. c.if-interpolate.ensures.checked refl;
      symbols = grind arith;
      original = grind (arith, slice_index);
    }

pub returns-else-interpolate : goal.returns-else-interpolate
returns-else-interpolate g c =
    let ring = g.R.Reducer in
    let is = are_chosen g.T.RingWord.number ring.value (ring.modulus c.args.r.now) _ (length c.args.message.now)
    c.args.points.now
    c.choose_points.new.chosen c.args.places.now c.choose_points.auto.chosen c.requires.chosen
    (c.in-Ok.ensures.places refl)
    (c.in-Ok.ensures.chosen refl) in record {
      accepted = ((λ t. absurd (false≢true t)), λ h. c.if-interpolate.ensures.fit.1 (is.fit.1 h.1));
      fault = (is.right, λ fit. false≢true (c.if-interpolate.ensures.fit.1 (is.fit.1 fit)));
      checked = λ t. absurd (false≢true t);
      symbols = λ t. absurd (false≢true t);
      original = λ t. absurd (false≢true t);
    }
