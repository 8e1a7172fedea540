use Rattle.ring_codes.proofs.Names.{◌∙◌, below_more, false≢true, sym, refl, arith, entry_read}
use Rattle.ring_codes.proofs.erasure.powers.are_zeros.Goals as goal

pub entries-init : goal.entries-init
entries-init g c i l b = absurd (omega (arith, l, b))

pub returns-then-not-is_zero : goal.returns-then-not-is_zero
returns-then-not-is_zero g c =
    let ring = g.R.Reducer in let m = ring.modulus c.args.r.now in
    let is = entry_read g.T.RingWord.number ring.value m c.args.entries.now c.entries.i _ c.entries-test.true
    c.index-entries-i.is in (
      λ t. absurd (false≢true t),
      λ all. c.if-not-is_zero.ensures.1 (is ∙ all c.entries.i (omega arith) c.entries-test.true),
    )

pub entries-preserved : goal.entries-preserved
entries-preserved g c =
    let ring = g.R.Reducer in let m = ring.modulus c.args.r.now in
    let is = entry_read g.T.RingWord.number ring.value m c.args.entries.now c.entries.i _ c.entries-test.true
    c.index-entries-i.is in
    below_more _ _ c.entries.invariant (λ b. sym is ∙ c.if-not-is_zero.ensures.0 refl)

pub returns : goal.returns
returns g c = ((λ t i b l. c.entries.invariant i (omega (arith, l, c.entries-test.false)) b), λ all. refl)
