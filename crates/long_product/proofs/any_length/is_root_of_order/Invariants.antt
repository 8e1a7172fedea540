use Rattle.std.proofs.Common.{◌≡◌, ℕ, ◌+◌, ◌-◌, ◌%◌, ◌^◌, ◌<◌, ◌≤◌, ◌↔◌}
use Rattle.num_modular.specs.Inverses.{HasInverse}
use Rattle.long_product.proofs.any_length.is_root_of_order.Given as goal

-- the power, and whether the differences before it have inverses
abbrev pub invariant-exponents : goal.invariant-exponents
invariant-exponents l = record {
  power : l.power ≡ l.g ^ l._done % l.m;
  residue : l.power < l.m;
  units : HasInverse l.m l.differences ↔ ((e : ℕ) → 1 ≤ e → e < l._done → HasInverse l.m (l.g ^ e + (l.m - 1)));
}
