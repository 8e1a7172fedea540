use Rattle.std.proofs.Common.{◌≡◌, ℕ, ◌+◌, ◌-◌, ◌*◌, ◌<◌, ◌≤◌, All, slice_index_or}
use Rattle.modular_reduced.specs.Entries.{entry}
use Rattle.modular_reduced.specs.Forms.{IsForm}
use Rattle.modular_transform.proofs.Columns.{IsColumn}
use Rattle.modular_transform.proofs.FourLemmas.{FoursDone}
use Rattle.modular_transform.proofs.two_stages.two_stages.Given as goal

-- the columns before the strip are done
abbrev pub invariant-strips : goal.invariant-strips
invariant-strips g l =
    let m = g.R.Reducer.modulus l.r in
    let form = g.R.Reducer.form in
    let number = g.T.RingWord.number in
    let value = g.R.Reducer.value in
    let w = value m (number l.root) in
    let v = value m (number l.square) in
    record {
      checked : All (λ f. IsForm form value m (number f)) l.forms;
      column : IsColumn form value m w v l.step l.start (number l.column.first) (number l.column.second)
          (number l.column.both);
      within : l.start ≤ l.step;
      done : FoursDone m w v l.step 0 l.blocks 0 l.start
          (entry number value m l.fn.forms) (entry number value m l.forms);
      count : l.products ≡ l.start * (4 * l.blocks + 3);
    }

abbrev pub decreases-strips : goal.decreases-strips
decreases-strips g l = l.step - l.start

-- the first columns of the strip have their powers
abbrev pub invariant-fill : goal.invariant-fill
invariant-fill g l =
    let m = g.R.Reducer.modulus l.r in
    let form = g.R.Reducer.form in
    let number = g.T.RingWord.number in
    let value = g.R.Reducer.value in
    let w = value m (number l.root) in
    let v = value m (number l.square) in
    record {
      column : IsColumn form value m w v l.step (l.start + l.i) (number l.column.first) (number l.column.second)
          (number l.column.both);
      count : l.products ≡ l.start * (4 * l.blocks + 3) + 3 * l.i;
      filled : (k : ℕ) (d e f : _) → k < l.i
          → IsColumn form value m w v l.step (l.start + k) (number (slice_index_or l.firsts k d))
          (number (slice_index_or l.seconds k e)) (number (slice_index_or l.boths k f));
    }

-- in the strip, the fours of the blocks before this one are done
abbrev pub invariant-each_block : goal.invariant-each_block
invariant-each_block g l =
    let m = g.R.Reducer.modulus l.r in
    let number = g.T.RingWord.number in
    let value = g.R.Reducer.value in
    let w = value m (number l.root) in
    let v = value m (number l.square) in
    record {
      checked : All (λ f. IsForm g.R.Reducer.form value m (number f)) l.forms;
      done : FoursDone m w v l.step 0 l.block l.start (l.start + l.width)
          (entry number value m l.initial.forms) (entry number value m l.forms);
      count : l.products ≡ l.start * (4 * l.blocks + 3) + 3 * l.width + l.block * (4 * l.width);
    }

-- and of this block the fours of the first columns
abbrev pub invariant-columns : goal.invariant-columns
invariant-columns g l =
    let m = g.R.Reducer.modulus l.r in
    let number = g.T.RingWord.number in
    let value = g.R.Reducer.value in
    let w = value m (number l.root) in
    let v = value m (number l.square) in
    record {
      checked : All (λ f. IsForm g.R.Reducer.form value m (number f)) l.forms;
      done : FoursDone m w v l.step l.block (l.block + 1) l.start
          (l.start + l.k) (entry number value m l.initial.forms) (entry number value m l.forms);
      count : l.products ≡ l.start * (4 * l.blocks + 3) + 3 * l.width + l.block * (4 * l.width) + 4 * l.k;
    }
