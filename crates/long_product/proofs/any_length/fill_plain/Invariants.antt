use Rattle.std.proofs.Common.{◌≡◌, ℕ, ◌%◌, ◌^◌, ◌<◌, length, get_or}
use Rattle.long_product.specs.AnyLength.{scaled_transform}
use Rattle.long_product.proofs.any_length.fill_plain.Given as goal

-- the entries before j are written
abbrev pub invariant-entries : goal.invariant-entries
invariant-entries l = record {
  written : (i : ℕ) → i < l.j
      → get_or l.out i 0 ≡ scaled_transform l.m l.part l.g (length l.xs) (λ k. get_or l.xs k 0) i;
  power : l.power ≡ l.g ^ l.j % l.m;
  residue : l.power < l.m;
}
