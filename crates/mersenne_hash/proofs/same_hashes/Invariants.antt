use Rattle.std.proofs.Common.{◌≡◌, ℕ, ◌%◌, ◌<◌, get_or}
use Rattle.num_modular.specs.Mersenne.{mersenne}
use Rattle.mersenne_hash.specs.Collisions.{hash_of}
use Rattle.mersenne_hash.proofs.same_hashes.Given as goal

-- the hashes at the bases so far are the same
abbrev pub invariant-bases : goal.invariant-bases
invariant-bases l = (i : ℕ) → i < l.place
    → hash_of l.first (get_or l.bases i 0 % mersenne 61 1) ≡ hash_of l.second (get_or l.bases i 0 % mersenne 61 1)
