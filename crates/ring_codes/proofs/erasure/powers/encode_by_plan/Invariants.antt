use Rattle.ring_codes.proofs.Names.{◌≡◌, ◌<◌, ℕ, numbers}
use Rattle.ring_codes.proofs.erasure.powers.encode_by_plan.Given as goal

-- the symbols of the message, then zeros
abbrev pub invariant-symbols : goal.invariant-symbols
invariant-symbols g l =
    let number = g.T.RingWord.number in
    (k : ℕ) → k < l.i → numbers number l.word k ≡ numbers number l.fn.message k
