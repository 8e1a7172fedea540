use Rattle.ring_codes.proofs.Names.{◌≡◌, ◌<◌, ◌∙◌, ℕ, arith, length, entry, entry_past, held_entry}
use Rattle.ring_codes.proofs.RootPowers.{value_by_transform}
use Rattle.ring_codes.proofs.erasure.powers.encode_by_transform.Goals as goal

pub returns-clause-encoding : goal.returns-clause-encoding
returns-clause-encoding g c points powers =
    let ring = g.R.Reducer in let m = ring.modulus c.args.r.now in let number = g.T.RingWord.number in
    let a = ring.value m (number c.args.g.now) in
    let message = c.args.message.now in let padded = c.symbols.word in
    let n : ℕ = length c.args.word.now in
    let count : length padded ≡ n = c.symbols.auto.word in
    let held : (i : ℕ) → i < n → entry number ring.value m padded i ≡ entry number ring.value m message i =
    λ i l. held_entry number ring.form ring.value m padded (entry number ring.value m message) c.symbols.i i
    c.symbols.invariant (omega arith) (omega (arith, l, count)) in
    record {
      symbol = λ j l.
          rw count at (c.ntt.ensures.values j (omega (arith, l, count)))
          ∙ value_by_transform m a (length message) n j points (entry number ring.value m message)
          (entry number ring.value m padded) c.requires.few powers (λ i b. held i (omega (arith, b, c.requires.few)))
          (λ i b k. held i k ∙ entry_past number ring.value m message i b) l;
    }
