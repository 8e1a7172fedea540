use Rattle.std.proofs.Common.{◌≡◌, ℕ, ◌+◌, ◌-◌, ◌*◌, ◌/◌, ◌%◌, ◌^◌, ◌<◌, ◌≤◌, length, sym, ◌∙◌, ap, arith, refl}
use Rattle.std.proofs.Common.{subst, List, All}
use Rattle.std.proofs.lemmas.Bool.{cases_eq}
use Rattle.std.proofs.lemmas.List.Elements.{All-set}
use Rattle.std.proofs.lemmas.Nat.{pow_pos, mul-le}
use Rattle.std.proofs.Math.ListN.{set}
use Rattle.std.proofs.Math.Nat.{pow-le-pow_right, le_antisymm}
use Rattle.std.specs.Int.{trailing_zeros, w64}
use Rattle.modular_word.specs.Congruence.{Congruent}
use Rattle.modular_word.proofs.Congruence.{mod_of_eq, mod_trans}
use Rattle.modular_word.proofs.Powers.{pow-one}
use Rattle.modular_reduced.specs.Entries.{entry}
use Rattle.modular_reduced.specs.EntryLaws.{entry_at, entry_kept, entry_written}
use Rattle.modular_reduced.specs.Forms.{IsForm}
use Rattle.modular_transform.specs.Transforms.{Suits}
use Rattle.modular_transform.proofs.Places.{StagesLeft, stage_offset, stages_left, two_left}
use Rattle.modular_transform.proofs.PowersOfTwo.{trailing_zeros_of_power, exponent_below}
use Rattle.modular_transform.proofs.StageLemmas.{BlocksTransform, stages_start}
use Rattle.modular_transform.proofs.StripPowers.{one_form}
use Rattle.modular_transform.proofs.TransformLemmas.{TwoSizes, stage_sizes, two_sizes, suited_length, root_more}
use Rattle.modular_transform.proofs.TransformLemmas.{quarter_turn}
use Rattle.modular_transform.proofs.TransformLemmas.{blocks_more, two_more, two_products_more}
use Rattle.modular_transform.proofs.TransformLemmas.{blocks_all, products_all, plain_order}
use Rattle.modular_reduced.proofs.ListSteps.{held_checked, held_values}
use Rattle.modular_transform.proofs.transform.ntt_counted.Goals as goal
use Rattle.modular_transform.proofs.transform.ntt_counted.Goals.{then-stages-eq1, else-stages-eq1}
use mir.Syntax.{w128}
use mir.Val.{Fits}

-- no roots are written yet
no_roots : (m : ℕ) (x y : ℕ → ℕ) (t : ℕ) → t < 0 → Congruent m (x t) (y t)
no_roots m x y t l = absurd (omega arith)

-- one root more is written
root_written : {T : Type 0} (number : T → ℕ) (value : ℕ → ℕ → ℕ) (m w : ℕ) (roots : List T) (s : ℕ) (root : T)
    → s < length roots → ((t : ℕ) → t < s → Congruent m (entry number value m roots t) (w ^ (2 ^ t)))
    → Congruent m (value m (number root)) (w ^ (2 ^ s))
    → (t : ℕ) → t < s + 1 → Congruent m (entry number value m (set roots s root) t) (w ^ (2 ^ t))
root_written number value m w roots s root within before is t l =
    search (arith, cases_eq, mod_trans, mod_of_eq, set, entry_written, entry_kept)

-- what is left after two stages
even_left : (t : ℕ) {z : ℕ} → (z - t) % 2 ≡ 0 → t + 2 ≤ z → (z - (t + 2)) % 2 ≡ 0
even_left t even two = omega (arith, even, two)

half_left : (half : ℕ) {p : ℕ} → p ≡ half / 2 → half / 4 ≡ p / 2
half_left half is = omega (arith, is)

blocks_fit : (t blocks : ℕ) {z n : ℕ} → 2 ^ (t + 1 + 1) ≡ blocks * 2 * 2 → n ≡ 2 ^ z → n < 2 ^ 64 → t + 2 ≤ z
    → Fits w64 (blocks * 4)
blocks_fit t blocks {z} is whole below two = search (arith, pow-le-pow_right)

products_fit : (t rest : ℕ) {z n all c : ℕ} → all + rest ≡ (t + 2) * (n / 2) + n + c → c ≡ z → z < 64 → t + 2 ≤ z
    → n < 2 ^ 64 → Fits w128 all
products_fit t rest {z} {n} count is few two below = search (arith, mul-le)

-- what a pass over two of the stages that are left says of the sizes
record Pass (z t n half blocks : ℕ) : Type 0 where
  whole : n ≡ 2 ^ z
  few : z < 64
  two : t + 2 ≤ z
  left : StagesLeft t z
  sizes : TwoSizes z t n half blocks

pass_of : {m g n t half blocks : ℕ} → Suits m g n → n < 2 ^ 64 → (trailing_zeros w64 n - t) % 2 ≡ 0
    → t < trailing_zeros w64 n → half ≡ 2 ^ (trailing_zeros w64 n - t) / 2 → blocks ≡ 2 ^ t
    → Pass (trailing_zeros w64 n) t n half blocks
pass_of suits below even more is_half is_blocks =
    search (arith, suited_length, exponent_below, two_left, stages_left, two_sizes)

pub roots-init : goal.roots-init
roots-init g c =
    let m = g.R.Reducer.modulus c.args.r.now in
    let number = g.T.RingWord.number in
    let value = g.R.Reducer.value in
    record {
      checked = one_form number g.R.Reducer.form value m 64 c.args.g.now c.requires.root;
      form = c.requires.root;
      root = mod_of_eq (sym (pow-one (value m (number c.args.g.now))));
      written = no_roots _ _ _;
      count = refl;
    }

pub roots-preserved : goal.roots-preserved
roots-preserved g c =
    let m = g.R.Reducer.modulus c.args.r.now in
    let number = g.T.RingWord.number in
    let value = g.R.Reducer.value in
    let canonical = g.met.R.Reducer.canonical c.args.r.now in
    let w = value m (number c.args.g.now) in
    let s = c.roots.i in
    let roots = c.roots.roots in
    let root = c.roots.root in
    let before = c.roots.invariant in
    let P = λ (f : _). IsForm g.R.Reducer.form value m (number f) in
    let below : length c.args.xs.now < 2 ^ 64 = c.well_formed.1.0.0 in
    let few = exponent_below _ _ (suited_length c.requires.suits below) below in
    record {
      checked = All-set P roots s root before.form before.checked;
      form = c.sqr-root.ensures.checked;
      root = root_more _ _ _ _ before.root (canonical.one_value (number c.sqr-root.result)
          ((value m (number root) * value m (number root)) % m) c.sqr-root.ensures.form);
      written = root_written number value m w roots s root (omega (arith, few)) before.written before.root;
      count = ap (λ v. v + 1) before.count;
    }

pub passes-init : goal.passes-init
passes-init g c =
    let m = g.R.Reducer.modulus c.args.r.now in
    let number = g.T.RingWord.number in
    let value = g.R.Reducer.value in
    let n = length c.args.xs.now in
    let z = trailing_zeros w64 n in
    let whole = suited_length c.requires.suits c.well_formed.1.0.0 in
    let root = value m (number c.args.g.now) in
    let of = entry number value m in
    let x = of c.args.xs.now in
    let d = c.if-stages-eq1.done in
    let size : n ≡ 2 ^ (z - 0) = whole ∙ ap (λ k. 2 ^ k) (sym (omega arith)) in
    let start = subst (λ s. BlocksTransform m root n 0 s x x) size (stages_start root n x) in
    let All_forms = λ (forms : List _). All (λ f. IsForm g.R.Reducer.form value m (number f)) forms in
    let moved = λ (t : ℕ) (y : List _) (is_t : d ≡ t) (is_y : c.if-stages-eq1.xs ≡ y)
    (done : BlocksTransform m root n t (2 ^ (z - t)) x (of y)). subst (λ k. BlocksTransform m root n k (2 ^ (z - k)) x
    (of c.if-stages-eq1.xs)) (sym is_t) (subst (λ l. BlocksTransform m root n t (2 ^ (z - t)) x (of l))
    (sym is_y) done) in
    elim c.if-stages-eq1.branch [
      | then-stages-eq1 w ↦
          let sizes = stage_sizes z 0 n (n / 2) 1 (omega arith) whole (ap (λ v. v / 2) size) refl in
          let done : d ≡ 0 + 1 = w.done-is in
          let left = ap (λ k. 2 ^ (z - k)) done in
          record {
            checked = subst All_forms (sym w.xs-is) w.first_stage.ensures.checked;
            upto = omega (arith, done);
            even = omega (arith, done);
            half = omega (arith, w.half-is, left);
            blocks = omega (arith, w.blocks-is, ap (λ k. 2 ^ k) done, sizes.more);
            transforms = moved (0 + 1) w.first_stage.new.forms done w.xs-is (blocks_more root z 0 n (n / 2) 1 root x x
                (of w.first_stage.new.forms) sizes refl (omega (arith, pow_pos (z - (0 + 1)))) c.requires.suits
                (mod_of_eq (sym (pow-one root))) start w.first_stage.ensures.stage);
            count = omega (arith, w.products-is, left, ap (λ k. k * (n / 2)) done, done);
          }
      | else-stages-eq1 w ↦
          grind (
            arith,
            w.xs-is,
            c.requires.checked,
            w.half-is,
            w.blocks-is,
            moved 0 c.args.xs.now w.done-is w.xs-is start,
            w.products-is,
          )
    ]

pub first_stage-requires-clause-whole : goal.first_stage-requires-clause-whole
first_stage-requires-clause-whole g c =
    let n = length c.args.xs.now in
    let z = trailing_zeros w64 n in
    let whole = suited_length c.requires.suits c.well_formed.1.0.0 in
    let size : n ≡ 2 ^ (z - 0) = whole ∙ ap (λ k. 2 ^ k) (sym (omega arith)) in
    let one = (stage_sizes z 0 n (n / 2) 1 (omega arith) whole (ap (λ v. v / 2) size) refl).whole in
    omega (arith, one)

pub passes-preserved : goal.passes-preserved
passes-preserved g c =
    let z = trailing_zeros w64 (length c.args.xs.now) in
    let t = c.passes.done in
    let before = c.passes.invariant in
    let pass = pass_of c.requires.suits c.well_formed.1.0.0 before.even c.passes-test.true before.half before.blocks in
    let at = λ (k : ℕ) (f : _) (l : k < z). mod_trans
    (mod_of_eq (entry_at g.T.RingWord.number g.R.Reducer.value (g.R.Reducer.modulus c.args.r.now) c.roots.roots k f
    (omega (arith, l, pass.few)))) (c.roots.invariant.written k (omega (arith, l))) in
    record {
      checked = c.two_stages-products.ensures.checked;
      upto = pass.two;
      even = even_left t before.even pass.two;
      half = half_left c.passes.half pass.sizes.quarter;
      blocks = search arith;
      transforms = two_more _ _ _ _ _ _ _ _ _ _ _ pass.sizes before.blocks c.requires.suits
          (at t c.index-roots-done.result c.passes-test.true)
          (at (t + 1) c.index-roots-done-in-passes.result pass.left.next) before.transforms
          c.two_stages-products.ensures.stages;
      count = two_products_more _ _ _ _ _ _ _ _ pass.sizes before.count c.two_stages-products.ensures.count;
    }

pub returns-clause-entries : goal.returns-clause-entries
returns-clause-entries g c =
    let before = c.passes.invariant in
    plain_order _ _ _ _ _ _ _ _ _ _ (suited_length c.requires.suits c.well_formed.1.0.0) (omega arith)
    (omega arith) before.checked (blocks_all _ _ _ _ _ _ c.passes-test.false before.upto before.transforms)
    c.reverse_places.ensures

pub returns-clause-values : goal.returns-clause-values
returns-clause-values g c j l =
    held_values _ _ _ _ (g.met.R.Reducer.canonical c.args.r.now) (returns-clause-entries g c)
    (omega (arith, c.passes.auto.xs))

pub returns-clause-checked : goal.returns-clause-checked
returns-clause-checked g c = search (arith, held_checked, returns-clause-entries)

pub returns-clause-count : goal.returns-clause-count
returns-clause-count g c z is =
    let n = length c.args.xs.now in
    let below : n < 2 ^ 64 = c.well_formed.1.0.0 in
    let before = c.passes.invariant in
    products_all _ _ _ _ c.passes-test.false before.upto (suited_length c.requires.suits below) before.count
    ∙ ap (λ k. n * k / 2 + n - 1 + k) (trailing_zeros_of_power _ _ is below)

pub two_stages-products-requires-clause-turn : goal.two_stages-products-requires-clause-turn
two_stages-products-requires-clause-turn g c =
    let m = g.R.Reducer.modulus c.args.r.now in
    let z = trailing_zeros w64 (length c.args.xs.now) in
    let root = g.R.Reducer.value m (g.T.RingWord.number c.args.g.now) in
    let pass = pass_of c.requires.suits c.well_formed.1.0.0 c.passes.invariant.even c.passes-test.true
    c.passes.invariant.half c.passes.invariant.blocks in
    let at = λ (k : ℕ) (f : _) (l : k < z). mod_trans
    (mod_of_eq (entry_at g.T.RingWord.number g.R.Reducer.value m c.roots.roots k f (omega (arith, l, pass.few))))
    (c.roots.invariant.written k (omega (arith, l, le_antisymm c.roots.auto.i-end c.roots-test.false))) in
    quarter_turn root z c.passes.done (length c.args.xs.now) c.passes.half c.passes.blocks _ _ pass.sizes pass.two
    (at c.passes.done c.index-roots-done.result c.passes-test.true)
    (at (z - 2) c.index-roots-stages.result pass.left.turn)

pub two_stages-products-requires-clause-whole : goal.two_stages-products-requires-clause-whole
two_stages-products-requires-clause-whole g c =
    let before = c.passes.invariant in
    let pass = pass_of c.requires.suits c.well_formed.1.0.0 before.even c.passes-test.true before.half before.blocks in
    (omega arith) ∙ ap (λ v. c.passes.blocks * (v + v)) (sym pass.sizes.halved) ∙ pass.sizes.first.whole
    ∙ sym (c.passes.auto.xs ∙ c.if-stages-eq1.auto.xs)

pub overflow_mul-blocks : goal.overflow_mul-blocks
overflow_mul-blocks g c =
    let before = c.passes.invariant in
    let pass = pass_of c.requires.suits c.well_formed.1.0.0 before.even c.passes-test.true before.half before.blocks in
    blocks_fit c.passes.done c.passes.blocks pass.sizes.second.more pass.whole c.well_formed.1.0.0 pass.two

pub overflow_add-products-in-passes : goal.overflow_add-products-in-passes
overflow_add-products-in-passes g c =
    let before = c.passes.invariant in
    let pass = pass_of c.requires.suits c.well_formed.1.0.0 before.even c.passes-test.true before.half before.blocks in
    grind (arith, products_fit)

pub reverse_places-requires-clause-whole : goal.reverse_places-requires-clause-whole
reverse_places-requires-clause-whole g c =
    c.passes.auto.xs ∙ c.if-stages-eq1.auto.xs ∙ suited_length c.requires.suits c.well_formed.1.0.0

pub offset_bounds-roots-i : goal.offset_bounds-roots-i
offset_bounds-roots-i g c =
    stage_offset _ c.roots-test.true (suited_length c.requires.suits c.well_formed.1.0.0) c.well_formed.1.0.1

pub offset_bounds-roots-done : goal.offset_bounds-roots-done
offset_bounds-roots-done g c =
    stage_offset _ c.passes-test.true (suited_length c.requires.suits c.well_formed.1.0.0) c.well_formed.1.0.1

pub offset_bounds-roots-done-in-passes : goal.offset_bounds-roots-done-in-passes
offset_bounds-roots-done-in-passes g c =
    stage_offset _ (stages_left c.passes.invariant.even c.passes-test.true).next
    (suited_length c.requires.suits c.well_formed.1.0.0) c.well_formed.1.0.1

pub offset_bounds-roots-stages : goal.offset_bounds-roots-stages
offset_bounds-roots-stages g c =
    stage_offset _ (stages_left c.passes.invariant.even c.passes-test.true).turn
    (suited_length c.requires.suits c.well_formed.1.0.0) c.well_formed.1.0.1
