use Rattle.std.proofs.Common.{◌*◌, arith, ◌∙◌, ap, sym}
use Rattle.std.proofs.lemmas.List.{length-set}
use Rattle.num_modular.specs.Integers.{residue_of}
use Rattle.mersenne_hash.specs.Collisions.{hash_of}
use Rattle.mersenne_hash.specs.Patterns.{pattern_of}
use Rattle.mersenne_hash.proofs.Written.{next_written}
use Rattle.mersenne_hash.proofs.prefixes.searches.fill_hashes.Goals as goal

pub patterns-preserved : goal.patterns-preserved
patterns-preserved c = record {
  entries = c.patterns.invariant.entries
      ∙ ap (λ n. n * c.args.size) (sym (length-set c.patterns.hashes c.patterns.k c.hash.result));
  hashed = next_written residue_of c.patterns.hashes c.patterns.k c.hash.result
      (λ k. hash_of (pattern_of c.args.symbols.now c.args.size k) (residue_of c.args.base)) (omega arith)
      c.patterns.invariant.hashed c.hash.ensures;
}
