use Rattle.std.proofs.Common.{◌≡◌, ℕ, ◌+◌, ◌-◌, ◌*◌, ◌%◌, ◌^◌, ◌<◌, ◌≤◌, length}
use Rattle.modular_plan_passes.proofs.Doublings.{IsMade}
use Rattle.modular_plan_passes.proofs.table.fill_table.Given as goal

-- the first places of one bit are written, from the highest one on
abbrev pub invariant-squares : goal.invariant-squares
invariant-squares g l =
    let number = g.T.RingWord.number in
    let m = number l.m.modulus in
    let root = number l.fn.g in
    let made = IsMade g.F.PlanEntry.value g.F.PlanEntry.quotient g.T.PathWord.base m root l.bits l.table in
    record {
      whole : length l.table ≡ 2 ^ l.bits;
      place : l.place ≡ 2 ^ (l.bits - l._bit);
      power : number l.power ≡ root ^ (2 ^ l._bit) % m;
      first : made 0;
      single : (t : ℕ) → l.bits - l._bit ≤ t → t < l.bits → made (2 ^ t);
    }

-- the first places are written
abbrev pub invariant-doublings : goal.invariant-doublings
invariant-doublings g l =
    let number = g.T.RingWord.number in
    let m = number l.m.modulus in
    let made = IsMade g.F.PlanEntry.value g.F.PlanEntry.quotient g.T.PathWord.base m (number l.fn.g) l.bits l.table in
    record {
      whole : length l.table ≡ 2 ^ l.bits;
      count : l.count ≡ 2 ^ l._bit;
      single : (t : ℕ) → t < l.bits → made (2 ^ t);
      first : (k : ℕ) → k < l.count → made k;
    }

-- more of them
abbrev pub invariant-others : goal.invariant-others
invariant-others g l =
    let number = g.T.RingWord.number in
    let m = number l.m.modulus in
    let made = IsMade g.F.PlanEntry.value g.F.PlanEntry.quotient g.T.PathWord.base m (number l.fn.g) l.bits l.table in
    record {
      room : 2 * l.count ≤ length l.table;
      single : (t : ℕ) → t < l.bits → made (2 ^ t);
      first : (k : ℕ) → k < l.count + l.other → made k;
    }
