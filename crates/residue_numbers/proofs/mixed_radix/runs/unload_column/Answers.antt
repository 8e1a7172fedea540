use Rattle.std.proofs.Common.{◌≡◌, ◌≢◌, ℕ, ◌+◌, ◌*◌, ◌<◌, List, length, get_or, set, arith, ◌∙◌, below_more}
use Rattle.std.proofs.Math.Nat.{mul-le-mul_left}
use Rattle.std.proofs.lemmas.List.{length-set, get_or-set_same, get_or-set_other}
use Rattle.residue_numbers.proofs.Columns.{place_within, other_place}
use Rattle.residue_numbers.proofs.mixed_radix.runs.unload_column.Goals as goal

registers_apart : (n r q place : ℕ) → r < q → place < n → r * n + place ≢ q * n + place
registers_apart n r q place h k e = let f = mul-le-mul_left n h in absurd (omega (arith, e, f, k))

pub registers-preserved : goal.registers-preserved
registers-preserved g c =
    let ring = g.R.Reducer in let m = ring.modulus c.args.reducer.now in
    let n : ℕ = c.args.count in let place : ℕ = c.args.place in let q : ℕ = c.registers.register in
    let words : List ℕ = c.registers.words in let forms : List ℕ = c.args.forms.now in
    let x : ℕ = c.residue.result in let at : ℕ = q * n + place in
    let before = c.registers.invariant in
    let inside = place_within (length forms) n q place (omega arith) c.requires.within in
    record {
      entries = length-set words at x ∙ before.entries;
      written = below_more (λ r. get_or (set words at x) (r * n + place) 0 ≡ ring.value m (get_or forms r 0)) q
          (λ r h. get_or-set_other words at (r * n + place) x 0 (registers_apart n r q place h c.requires.within)
          ∙ before.written r h)
          (get_or-set_same words at x 0 (omega (arith, inside, before.entries, c.requires.words))
          ∙ c.residue.ensures.value);
      kept = λ r i h k other.
          get_or-set_other words at (r * n + i) x 0 (λ e. other (other_place n r q i place k c.requires.within e))
          ∙ before.kept r i h k other;
    }
