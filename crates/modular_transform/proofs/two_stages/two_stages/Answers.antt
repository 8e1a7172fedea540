use Rattle.std.proofs.Common.{◌≡◌, ◌+◌, ◌*◌, arith, subst}
use Rattle.std.proofs.Math.Nat.{le-add_right, add_assoc, le_antisymm}
use Rattle.modular_reduced.specs.Entries.{entry}
use Rattle.modular_transform.proofs.Columns.{IsColumn, next_powers_are_column, filled_more}
use Rattle.modular_transform.proofs.FourLemmas.{FoursDone, one_done, columns_joined, blocks_joined}
use Rattle.modular_transform.proofs.FourLemmas.{four_done_by_congruent_powers}
use Rattle.modular_transform.proofs.StripCounts.{fours_done, strip_counted, width_fits, fours_count_fits}
use Rattle.modular_transform.proofs.StripPlaces.{strip_offset}
use Rattle.modular_transform.proofs.TwoStages.{two_stages_done}
use Rattle.modular_transform.proofs.ValueLemmas.{values_below}
use Rattle.modular_transform.proofs.two_stages.two_stages.Goals as goal

pub offset_bounds-firsts-i : goal.offset_bounds-firsts-i
offset_bounds-firsts-i g c =
    strip_offset _ _ _ c.fill-test.true c.min-width.ensures c.requires.whole c.requires.some c.well_formed.1.0.1

pub offset_bounds-firsts-k : goal.offset_bounds-firsts-k
offset_bounds-firsts-k g c =
    strip_offset _ _ _ c.columns-test.true c.min-width.ensures c.requires.whole c.requires.some c.well_formed.1.0.1

pub offset_bounds-seconds-i : goal.offset_bounds-seconds-i
offset_bounds-seconds-i g c =
    strip_offset _ _ _ c.fill-test.true c.min-width.ensures c.requires.whole c.requires.some c.well_formed.1.0.1

pub offset_bounds-seconds-k : goal.offset_bounds-seconds-k
offset_bounds-seconds-k g c =
    strip_offset _ _ _ c.columns-test.true c.min-width.ensures c.requires.whole c.requires.some c.well_formed.1.0.1

pub offset_bounds-boths-i : goal.offset_bounds-boths-i
offset_bounds-boths-i g c =
    strip_offset _ _ _ c.fill-test.true c.min-width.ensures c.requires.whole c.requires.some c.well_formed.1.0.1

pub offset_bounds-boths-k : goal.offset_bounds-boths-k
offset_bounds-boths-k g c =
    strip_offset _ _ _ c.columns-test.true c.min-width.ensures c.requires.whole c.requires.some c.well_formed.1.0.1

pub fill-preserved : goal.fill-preserved
fill-preserved g c =
    let m = g.R.Reducer.modulus c.args.r.now in
    let w = g.R.Reducer.value m (g.T.RingWord.number c.args.root.now) in
    let v = g.R.Reducer.value m (g.T.RingWord.number c.args.square.now) in
    record {
      column = next_powers_are_column c.strips.start c.fill.i (g.met.R.Reducer.canonical c.args.r.now)
          c.fill.invariant.column
          c.mul.ensures.form c.mul-in-fill.ensures.form c.mul-in-fill-2.ensures.form;
      count = omega (arith, c.fill.invariant.count);
      filled = filled_more (λ k x y z. IsColumn g.R.Reducer.form g.R.Reducer.value m w v c.args.step
          (c.strips.start + k) (g.T.RingWord.number x) (g.T.RingWord.number y) (g.T.RingWord.number z)) c.fill.firsts
          c.fill.seconds c.fill.boths c.fill.i c.fill.column.first c.fill.column.second c.fill.column.both
          (omega (arith, c.fill-test.true, c.min-width.ensures)) (omega (arith, c.fill-test.true, c.min-width.ensures))
          (omega (arith, c.fill-test.true, c.min-width.ensures)) c.fill.invariant.filled c.fill.invariant.column;
    }

pub four-requires-clause-powers : goal.four-requires-clause-powers
four-requires-clause-powers g c =
    (c.fill.invariant.filled c.columns.k c.index-firsts-k.result c.index-seconds-k.result c.index-boths-k.result
    (omega (arith, c.columns-test.true, le_antisymm c.fill.auto.i-end c.fill-test.false))).powers

pub overflow_add-products-in-columns : goal.overflow_add-products-in-columns
overflow_add-products-in-columns g c = search (arith, fours_count_fits, width_fits)

pub columns-preserved : goal.columns-preserved
columns-preserved g c =
    let m = g.R.Reducer.modulus c.args.r.now in
    let number = g.T.RingWord.number in
    let value = g.R.Reducer.value in
    let h = c.args.step in
    let p = c.each_block.block in
    let start = c.strips.start in
    let k = c.columns.k in
    let i = start + k in
    let of = entry number value m in
    let y = of c.columns.forms in
    let z = of c.four.new.forms in
    let is = c.fill.invariant.filled k c.index-firsts-k.result c.index-seconds-k.result c.index-boths-k.result
    (omega (arith, le_antisymm c.fill.auto.i-end c.fill-test.false)) in
    let one : FoursDone m (value m (number c.args.root.now)) (value m (number c.args.square.now)) h p (p + 1) i
    (i + 1) y z =
    one_done h p i y z (omega arith) (four_done_by_congruent_powers is.first is.second is.both c.four.ensures.done) in
    let joined = columns_joined {h = h} {c = start} {d = i} {e = i + 1} (of c.each_block.forms) y z
    (le-add_right start k) (omega arith) (omega arith) c.columns.invariant.done one in
    grind (arith, c.four.ensures.checked, add_assoc start k 1, c.columns.invariant.count)

pub each_block-preserved : goal.each_block-preserved
each_block-preserved g c =
    let m = g.R.Reducer.modulus c.args.r.now in
    let number = g.T.RingWord.number in
    let value = g.R.Reducer.value in
    let h = c.args.step in
    let p = c.each_block.block in
    let start = c.strips.start in
    let width = c.min-width.result in
    let of = entry number value m in
    let y = of c.each_block.forms in
    let z = of c.columns.forms in
    let all : c.columns.k ≡ width = le_antisymm c.columns.auto.k-end c.columns-test.false in
    let here = subst (λ k. FoursDone m (value m (number c.args.root.now)) (value m (number c.args.square.now)) h p
    (p + 1) start (start + k) y z) all c.columns.invariant.done in
    record {
      checked = c.columns.invariant.checked;
      done = blocks_joined {h = h} {a = 0} {b = p} {d = start + width} {e = p + 1} (of c.strips.forms) y z
          (omega arith) (omega arith) (width_fits c.min-width.ensures c.strips.invariant.within)
          c.each_block.invariant.done here;
      count = fours_done (start * (4 * c.args.blocks + 3) + 3 * width) p c.columns.invariant.count all;
    }

pub strips-preserved : goal.strips-preserved
strips-preserved g c =
    let m = g.R.Reducer.modulus c.args.r.now in
    let number = g.T.RingWord.number in
    let value = g.R.Reducer.value in
    let w = value m (number c.args.root.now) in
    let v = value m (number c.args.square.now) in
    let h = c.args.step in
    let start = c.strips.start in
    let width = c.min-width.result in
    let of = entry number value m in
    let y = of c.strips.forms in
    let z = of c.each_block.forms in
    let before = c.strips.invariant in
    let blocks : c.each_block.block ≡ c.args.blocks = le_antisymm c.each_block.auto.block-end c.each_block-test.false in
    let strip = subst (λ b. FoursDone m w v h 0 b start (start + width) y z) blocks c.each_block.invariant.done in
    let within = width_fits c.min-width.ensures before.within in
    record {
      checked = c.each_block.invariant.checked;
      column = grind (arith, c.fill.invariant.column);
      within = within;
      done = columns_joined {h = h} {c = 0} {d = start} {e = start + width} (of c.args.forms.now) y z (omega arith)
          (le-add_right start width) within before.done strip;
      count = strip_counted start width c.each_block.invariant.count blocks;
    }

pub returns-clause-stages : goal.returns-clause-stages
returns-clause-stages g c =
    let m = g.R.Reducer.modulus c.args.r.now in
    let number = g.T.RingWord.number in
    let value = g.R.Reducer.value in
    two_stages_done _ _ _ _ _ _ _ _ c.requires.whole (λ k l. values_below _ _ _ _ _ _ c.requires.checked l)
    (subst (λ d. FoursDone m (value m (number c.args.root.now)) (value m (number c.args.square.now)) c.args.step 0
    c.args.blocks 0 d (entry number value m c.args.forms.now) (entry number value m c.strips.forms))
    (le_antisymm c.strips.invariant.within c.strips-test.false) c.strips.invariant.done)
