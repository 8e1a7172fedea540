use Rattle.std.proofs.Common.{◌≡◌, ℕ, ◌+◌, ◌-◌, ◌*◌, ◌/◌, ◌%◌, ◌^◌, ◌<◌, ◌≤◌, All, length}
use Rattle.modular_reduced.specs.Forms.{IsForm}
use Rattle.modular_word.specs.Congruence.{Congruent}
use Rattle.modular_reduced.specs.Entries.{entry}
use Rattle.modular_transform.proofs.StageLemmas.{BlocksTransform}
use Rattle.modular_transform.proofs.transform.ntt_counted.Given as goal

-- the roots of the stages before this one are written
abbrev pub invariant-roots : goal.invariant-roots
invariant-roots g l =
    let m = g.R.Reducer.modulus l.r in
    let number = g.T.RingWord.number in
    let value = g.R.Reducer.value in
    let w = value m (number l.g) in
    record {
      checked : All (λ f. IsForm g.R.Reducer.form value m (number f)) l.roots;
      form : IsForm g.R.Reducer.form value m (number l.root);
      root : Congruent m (value m (number l.root)) (w ^ (2 ^ l.i));
      written : (t : ℕ) → t < l.i → Congruent m (entry number value m l.roots t) (w ^ (2 ^ t));
      count : l.products ≡ l.i;
    }

-- `done` stages are done, and those that are left are even in number
abbrev pub invariant-passes : goal.invariant-passes
invariant-passes g l =
    let m = g.R.Reducer.modulus l.r in
    let number = g.T.RingWord.number in
    let value = g.R.Reducer.value in
    let x = entry number value m l.fn.xs in
    let n = length l.fn.xs in
    let z = l.stages in
    let t = l.done in
    record {
      checked : All (λ f. IsForm g.R.Reducer.form value m (number f)) l.xs;
      upto : t ≤ z;
      even : (z - t) % 2 ≡ 0;
      half : l.half ≡ 2 ^ (z - t) / 2;
      blocks : l.blocks ≡ 2 ^ t;
      transforms : BlocksTransform m (value m (number l.g)) n t (2 ^ (z - t)) x (entry number value m l.xs);
      count : l.products + 2 ^ (z - t) ≡ t * (n / 2) + n + z;
    }

abbrev pub decreases-passes : goal.decreases-passes
decreases-passes g l = l.stages - l.done
