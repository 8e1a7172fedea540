use Rattle.std.proofs.Common.{◌≡◌, ◌+◌, length, slice_range, arith, ap, sym, ◌∙◌, below_more}
use Rattle.std.specs.Cmp.Lexicographic.{other_text}
use Rattle.mersenne_hash.specs.Patterns.{pattern_of}
use Rattle.mersenne_hash.proofs.Patterns.{pattern_length}
use Rattle.num_modular_c.proofs.searches.first_pattern.Goals as goal
use Rattle.num_modular_c.proofs.searches.first_pattern.Goals.{then-at-text-via-then-at-text}
use Rattle.num_modular_c.proofs.searches.first_pattern.Goals.{then-at-text-via-else-at-text+then-text-at}
use Rattle.num_modular_c.proofs.searches.first_pattern.Goals.{else-hashes-k-via-then-hashes-k+else-eq}
use Rattle.num_modular_c.proofs.searches.first_pattern.Goals.{else-hashes-k-via-else-hashes-k}

pub returns-then-at-text : goal.returns-then-at-text
returns-then-at-text c = record {
  most = omega arith;
  stands = λ l. absurd (omega (arith, l));
  first = λ j l stands.
      let size = pattern_length c.args.patterns.now c.args.size (length c.args.hashes.now) j c.requires.whole l in
      elim c.then-at-text.branch [
        | then-at-text-via-then-at-text w ↦ omega (arith, stands.within, size, w.if-at-text.true)
        | then-at-text-via-else-at-text+then-text-at w ↦
            omega (arith, stands.within, size, w.if-at-text.false, w.if-text-at.true)
      ];
}

pub patterns-preserved : goal.patterns-preserved
patterns-preserved c =
    let text = c.args.text.now in let patterns = c.args.patterns.now in
    let inside = c.patterns-test.true in
    let size = pattern_length patterns c.args.size (length c.args.hashes.now) c.patterns.k c.requires.whole inside in
    below_more _ _ c.patterns.invariant
    (λ stands.
    let same : slice_range text c.args.at (c.args.at + c.args.size) ≡ pattern_of patterns c.args.size c.patterns.k =
    ap (λ n. slice_range text c.args.at (c.args.at + n)) (sym size) ∙ stands.same in
    elim c.else-hashes-k.branch [
      | else-hashes-k-via-then-hashes-k+else-eq w ↦ other_text _ _ (sym w.if-eq.false ∙ w.eq.ensures) same
      | else-hashes-k-via-else-hashes-k w ↦
          w.if-hashes-k.false (c.requires.alike c.patterns.k (omega (arith, stands.within, size)) inside same)
    ])
