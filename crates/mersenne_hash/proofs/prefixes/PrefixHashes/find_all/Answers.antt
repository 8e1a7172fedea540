use Rattle.std.proofs.Common.{ℕ, ◌<◌, length, arith}
use Rattle.num_modular.specs.SystemLaws.{set_more}
use Rattle.mersenne_hash.specs.Patterns.{IsFirstPattern}
use Rattle.mersenne_hash.proofs.Patterns.{number_or_count}
use Rattle.mersenne_hash.proofs.prefixes.PrefixHashes.find_all.Goals as goal

pub places-preserved : goal.places-preserved
places-preserved c =
    let text = c.args.self.now.text.now in
    let ps = c.args.patterns.now in let n : ℕ = length ps.hashes.now in
    set_more c.places.found c.places.at c.unwrap_or.result
    (λ i k. IsFirstPattern text ps.symbols.now ps.size n i k) (omega arith) c.places.invariant
    (number_or_count c.pattern_at.result n (λ k. k < n) (IsFirstPattern text ps.symbols.now ps.size n c.places.at)
    c.unwrap_or.result c.pattern_at.ensures c.unwrap_or.ensures)
