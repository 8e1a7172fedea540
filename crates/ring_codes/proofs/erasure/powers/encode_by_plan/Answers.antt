use Rattle.ring_codes.proofs.Names.{◌≡◌, ◌<◌, ◌≤◌, ◌∙◌, ℕ, ap, arith, length, sym, entry_at, entry_read, entry_past}
use Rattle.ring_codes.proofs.Names.{entry_written, entry_kept, get_or, inl, inr, cases_eq, cases_lt, numbers}
use Rattle.ring_codes.proofs.RootPowers.{value_by_transform}
use Rattle.ring_codes.proofs.erasure.powers.encode_by_plan.Goals as goal
use Rattle.ring_codes.proofs.erasure.powers.encode_by_plan.Goals.{then-i-message, else-i-message}

pub symbols-preserved : goal.symbols-preserved
symbols-preserved g c =
    let number = g.T.RingWord.number in let i : ℕ = c.symbols.i in let x = c.if-i-message.word in
    let padded = c.symbols.word in let message = c.args.message.now in
    let within : i < length padded = omega arith in
    let is : number x ≡ numbers number message i = elim c.if-i-message.branch [
      | then-i-message w ↦
          ap number w.word-is ∙ entry_read number (λ k x. x) 0 message i _ w.if-i-message.true w.index-message-i.is
      | else-i-message w ↦
          ap number w.word-is ∙ w.zero.ensures ∙ sym (entry_past number (λ k x. x) 0 message i w.if-i-message.false)
    ] in
    λ k l. elim (cases_eq k i) [
      | inl e ↦ rw e (entry_written number (λ k x. x) 0 padded i x within ∙ is)
      | inr other ↦ entry_kept number (λ k x. x) 0 padded i k x other ∙ c.symbols.invariant k (omega (arith, l, other))
    ]

pub transform-requires-clause-entries : goal.transform-requires-clause-entries
transform-requires-clause-entries g c =
    let number = g.T.RingWord.number in let message = c.args.message.now in let padded = c.symbols.word in
    λ k d l.
    let is : number (get_or padded k d) ≡ numbers number message k =
    entry_at number (λ k x. x) 0 padded k d l ∙ c.symbols.invariant k (omega (arith, l)) in
    elim (cases_lt k (length message)) [
      | inl short ↦ rw (is, ← entry_at number (λ k x. x) 0 message k d short) (c.requires.symbols k d short)
      | inr after ↦ omega (arith, is, entry_past number (λ k x. x) 0 message k after, c.args.plan.now.odd)
    ]

pub returns-clause-encoding : goal.returns-clause-encoding
returns-clause-encoding g c points powers =
    let number = g.T.RingWord.number in
    let m = number c.args.plan.now.modulus.modulus in
    let message = c.args.message.now in
    let padded = c.symbols.word in
    let n : ℕ = length c.args.word.now in
    let count : length padded ≡ n = c.symbols.auto.word in
    let past : (i : ℕ) → length message ≤ i → numbers number message i ≡ 0 =
    λ i b. entry_past number (λ k x. x) m message i b in
    let held : (i : ℕ) → i < n → numbers number padded i ≡ numbers number message i =
    λ i l. c.symbols.invariant i (omega (arith, l)) in
    record {
      symbol = grind (arith, value_by_transform);
    }
