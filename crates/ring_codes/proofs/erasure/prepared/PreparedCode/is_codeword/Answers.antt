use Rattle.ring_codes.proofs.Names.{◌<◌, ◌+◌, ◌*◌, ◌%◌, ◌∙◌, below_more, false≢true, ℕ, ap, sym, refl, arith, length}
use Rattle.ring_codes.proofs.Names.{entry, entry_read, form_read, sum_below, values_below}
use Rattle.ring_codes.proofs.Lagrange.{fit_known, message_of, value_from_row}
use Rattle.ring_codes.proofs.Symbols.{same_forms, told_same, told_other}
use Rattle.ring_codes.proofs.erasure.prepared.PreparedCode.is_codeword.Goals as goal

pub returns-then-ne : goal.returns-then-ne
returns-then-ne g c =
    let self = c.args.self.now in
    let ring = g.R.Reducer in let m = ring.modulus self.ring.now in let number = g.T.RingWord.number in
    let x = entry number ring.value m self.known.now in let y = entry number ring.value m self.wanted.now in
    let rows = entry number ring.value m self.rows.now in
    let symbols = entry number ring.value m c.args.symbols.now in let others = c.args.others.now in
    let k : ℕ = length self.known.now in let n : ℕ = length self.wanted.now in let j = c.wanted.j in
    let below : j < length others = omega arith in
    let symbol = entry_read number ring.value m others j _ below c.index-others-j.is in
    let is = form_read number ring.form ring.value m others j _ c.requires.others below c.index-others-j.is in (
      λ t. absurd (false≢true t),
      λ (message, known, wanted).
          absurd (told_other _ _ _ c.ne.ensures c.if-ne.true
          (g.met.T.RingWord.equal c.row_value-symbol.result c.index-others-j.result)
          (same_forms ring.form ring.value m _ _ c.row_value-symbol.ensures.checked is
          (rw (symbol, wanted.symbol j (omega arith)) (c.row_value-symbol.ensures.value ∙ rw c.requires.given
          (value_from_row m k n j x y rows symbols message self.factors known (omega arith)))))),
    )

pub wanted-preserved : goal.wanted-preserved
wanted-preserved g c =
    let self = c.args.self.now in
    let ring = g.R.Reducer in let m = ring.modulus self.ring.now in
    let others = c.args.others.now in let j = c.wanted.j in
    let below : j < length others = omega arith in
    let symbol = entry_read _ ring.value _ _ _ _ below c.index-others-j.is in
    let same = told_same _ _ _ c.ne.ensures c.if-ne.false
    (g.met.T.RingWord.equal c.row_value-symbol.result c.index-others-j.result) in
    below_more _ _ c.wanted.invariant (sym symbol ∙ sym (ap (ring.value m) same) ∙ c.row_value-symbol.ensures.value)

pub returns : goal.returns
returns g c =
    let self = c.args.self.now in
    let ring = g.R.Reducer in let m = ring.modulus self.ring.now in let number = g.T.RingWord.number in
    let positive = (g.met.R.Reducer.canonical self.ring.now).positive in
    let x = entry number ring.value m self.known.now in let y = entry number ring.value m self.wanted.now in
    let rows = entry number ring.value m self.rows.now in
    let symbols = entry number ring.value m c.args.symbols.now in
    let k : ℕ = length self.known.now in let n : ℕ = length self.wanted.now in
    let found = message_of m k x symbols positive (fit_known m k x self.fit)
    (λ i l. values_below number ring.form ring.value m c.args.symbols.now i c.requires.symbols (omega arith)) in (
      λ t. (
        found.0,
        found.1,
        record {
          symbol = λ j l. c.wanted.invariant j (omega arith)
              ∙ ap (λ k. sum_below k (λ i. rows (j * k + i) * symbols i) % m) c.requires.given
              ∙ value_from_row m k n j x y rows symbols found.0 self.factors found.1 l;
        },
      ),
      λ h. refl,
    )
