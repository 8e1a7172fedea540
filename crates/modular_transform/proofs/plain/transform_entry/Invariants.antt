use Rattle.std.proofs.Common.{◌≡◌, ◌*◌, ◌%◌, ◌^◌, slice_index}
use Rattle.modular_word.specs.Congruence.{Congruent}
use Rattle.modular_word.specs.Sums.{sum_below}
use Rattle.modular_transform.proofs.plain.transform_entry.Given as goal

-- the first i terms are added up
abbrev pub invariant-terms : goal.invariant-terms
invariant-terms l = record {
  power : Congruent l.m l.power (l.g ^ (l.i * l.j));
  sum : l.sum ≡ sum_below l.i (λ i. slice_index l.xs i * l.g ^ (i * l.j)) % l.m;
}
