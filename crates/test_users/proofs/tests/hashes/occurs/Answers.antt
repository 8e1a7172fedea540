use Rattle.std.proofs.Common.{ap, sym, ◌∙◌}
use Rattle.num_modular.specs.Integers.{residue_of}
use Rattle.mersenne_hash.specs.Collisions.{hash_of}
use Rattle.test_users.proofs.tests.hashes.occurs.Goals as goal

-- equal parts have equal hashes
pub is_hit-requires-clause-alike : goal.is_hit-requires-clause-alike
is_hit-requires-clause-alike c same =
    c.hash-window.ensures ∙ ap (λ p. hash_of p (residue_of c.args.base)) same ∙ sym c.hash-wanted.ensures
