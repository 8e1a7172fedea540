use Rattle.std.proofs.Common.{arith, length}
use Rattle.num_modular.specs.SystemLaws.{set_more}
use Rattle.mersenne_hash.specs.Patterns.{IsFirstPattern}
use Rattle.num_modular_c.proofs.searches.find_patterns.Goals as goal

pub places-preserved : goal.places-preserved
places-preserved c = record {
  hashed = c.next_window-window.ensures;
  written = set_more c.places.found c.places.at c.first_pattern.result
      (λ i k. IsFirstPattern c.args.text.now c.args.patterns.now c.args.size (length c.args.hashes.now) i k)
      (omega arith) c.places.invariant.written c.first_pattern.ensures;
}
