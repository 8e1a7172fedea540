use Rattle.std.proofs.Common.{ℕ, ◌*◌, ◌<◌, get_or}
use Rattle.num_modular_c.proofs.planned.have_room.Given as goal

-- the words before this one have room
abbrev pub invariant-words : goal.invariant-words
invariant-words l = (k : ℕ) → k < l.place → (d : ℕ) → get_or l.words k d < 4 * l.m.modulus
