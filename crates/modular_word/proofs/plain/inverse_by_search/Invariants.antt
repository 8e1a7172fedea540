-- No number tried so far is the inverse.
use Rattle.std.proofs.Common.{◌≡◌, ℕ, ◌*◌, ◌%◌, ◌<◌}
use Rattle.modular_word.proofs.plain.inverse_by_search.Given as goal

abbrev pub invariant-loop-x : goal.invariant-loop-x
invariant-loop-x l = (y : ℕ) → y < l.x → (l.a * y) % l.m ≡ 1 % l.m → ⊥
