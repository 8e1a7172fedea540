use Rattle.ring_codes.proofs.Names.{◌+◌, ◌*◌, ◌%◌, ◌∙◌, ℕ, arith, length, entry, held_entry, sum_below, values_below}
use Rattle.ring_codes.proofs.Lagrange.{fit_known, message_of, value_from_row}
use Rattle.ring_codes.proofs.erasure.prepared.PreparedCode.extend.Goals as goal

pub returns-clause-original : goal.returns-clause-original
returns-clause-original g c message is =
    let self = c.args.self.now in
    let ring = g.R.Reducer in let m = ring.modulus self.ring.now in let number = g.T.RingWord.number in
    let x = entry number ring.value m self.known.now in let y = entry number ring.value m self.wanted.now in
    let rows = entry number ring.value m self.rows.now in
    let symbols = entry number ring.value m c.args.symbols.now in
    let k : ℕ = length self.known.now in let n : ℕ = length self.wanted.now in let others = c.wanted.others in
    let v : ℕ → ℕ → ℕ = λ k j. sum_below k (λ i. rows (j * k + i) * symbols i) % m in
    record {
      symbol = λ j l.
          held_entry number ring.form ring.value m others (v (length c.args.symbols.now)) c.wanted.j j
          c.wanted.invariant
          (omega arith) (omega arith)
          ∙ rw c.requires.given (value_from_row m k n j x y rows symbols message self.factors is l);
    }

pub returns-clause-word : goal.returns-clause-word
returns-clause-word g c =
    let self = c.args.self.now in
    let ring = g.R.Reducer in let m = ring.modulus self.ring.now in let number = g.T.RingWord.number in
    let positive = (g.met.R.Reducer.canonical self.ring.now).positive in
    let k : ℕ = length self.known.now in
    let found = message_of m k _ _ positive (fit_known m k _ self.fit)
    (λ i l. values_below number ring.form ring.value m c.args.symbols.now i c.requires.symbols (omega arith)) in
    (found.0, found.1, returns-clause-original g c found.0 found.1)
