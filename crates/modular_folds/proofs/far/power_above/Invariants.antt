use Rattle.std.proofs.Common.{◌≡◌, ◌+◌, ◌%◌, ◌^◌, ◌<◌, ◌≤◌, ◌-◌}
use Rattle.modular_folds.proofs.far.power_above.Given as goal

abbrev pub invariant-doubled : goal.invariant-doubled
invariant-doubled g l =
    let n = g.V.RingWord.number in
    record {
      most : l.done ≤ l.fn.by;
      mask : n l.mask + 1 ≡ 2 ^ (l.fn.p + l.done);
      same : n l.factor % n l.fn.m ≡ 2 ^ (l.fn.p + l.done) % n l.fn.m;
      below : n l.factor < n l.fn.m;
    }

abbrev pub decreases-doubled : goal.decreases-doubled
decreases-doubled g l = l.fn.by - l.done
