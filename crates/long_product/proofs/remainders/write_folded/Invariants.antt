use Rattle.std.proofs.Common.{◌≡◌, ℕ, ◌+◌, ◌*◌, ◌%◌, ◌<◌, length, get_or}
use Rattle.long_product.specs.Residues.{HasResidues}
use Rattle.long_product.proofs.remainders.write_folded.Given as goal

-- the places before e are written
abbrev pub invariant-places : goal.invariant-places
invariant-places l =
    (i x y : ℕ) → i < l.e → HasResidues l.count x (get_or l.firsts i 0) (get_or l.seconds i 0) (get_or l.thirds i 0)
    → (0 < l.c → HasResidues l.count y (get_or l.firsts (i + length l.fn.out) 0) (get_or l.seconds (i + length l.fn.out)
    0)
    (get_or l.thirds (i + length l.fn.out) 0)) → get_or l.out i 0 ≡ (x + l.c * y) % l.m
