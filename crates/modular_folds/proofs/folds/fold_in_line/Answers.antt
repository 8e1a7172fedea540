use Rattle.std.proofs.Common.{◌≡◌, ◌+◌, ◌*◌, ◌/◌, ◌%◌, ◌^◌, ◌<◌, ◌≤◌, ◌∙◌, arith}
use Rattle.std.proofs.Math.Nat.{mul-le-mul_right}
use Rattle.modular_folds.proofs.FoldSteps.{mask_plus_one_is_power, power_fits, some_bits, fold_keeps}
use Rattle.modular_folds.proofs.FoldBounds.{doubled_fits, first_bound, fold_bound, next_bound, bound_falls}
use Rattle.modular_folds.proofs.WordTests.{at_least_by_false_test}
use Rattle.modular_folds.proofs.folds.fold_in_line.Goals as goal
use Rattle.modular_folds.proofs.folds.fold_in_line.Goals.{After-shift_right, After-fold_once}

pub plus-mask-requires : goal.plus-mask-requires
plus-mask-requires g c = omega (arith, power_fits c.requires.folding)

pub plus-twice-requires : goal.plus-twice-requires
plus-twice-requires g c = search (arith, some_bits, doubled_fits)

pub times-requires : goal.times-requires
times-requires g c = grind (arith, first_bound)

pub plus-most-requires : goal.plus-most-requires
plus-most-requires g c = search (arith, first_bound, mask_plus_one_is_power)

-- what the next fold leaves at most is less than before
next_fold_bound_decreases : (g : _) (c : After-shift_right g)
    → g.V.RingWord.number c.folds.most / 2 ^ c.args.p * g.V.RingWord.number c.args.c + g.V.RingWord.number
    c.plus-mask.result
    < g.V.RingWord.number c.folds.most
next_fold_bound_decreases g c =
    let n = g.V.RingWord.number in
    let high : 2 * n c.args.m ≤ n c.folds.most =
    omega (arith, at_least_by_false_test c.is_below.ensures.below c.folds-test.true, c.plus-twice.ensures) in
    bound_falls _ _ _ _ _ (mask_plus_one_is_power _ _ c.one.ensures c.minus.ensures c.plus-mask.ensures
    c.requires.folding.whole)
    c.requires.folding.whole c.requires.small high

pub times-requires-in-folds : goal.times-requires-in-folds
times-requires-in-folds g c =
    let l = next_fold_bound_decreases g (goal.at.times-requires-in-folds g c).After-shift_right in
    rw c.shift_right.ensures.value (omega (arith, l, c.is_below.ensures.fits))

pub plus-most-requires-in-folds : goal.plus-most-requires-in-folds
plus-most-requires-in-folds g c =
    let l = next_fold_bound_decreases g (goal.at.plus-most-requires-in-folds g c).After-shift_right in
    rw (c.times-in-folds.ensures, c.shift_right.ensures.value) (omega (arith, l, c.is_below.ensures.fits))

pub folds-smaller : goal.folds-smaller
folds-smaller g c =
    let l = next_fold_bound_decreases g (goal.at.folds-smaller g c).After-shift_right in
    rw (c.plus-most-in-folds.ensures, c.times-in-folds.ensures, c.shift_right.ensures.value) l

pub folds-preserved : goal.folds-preserved
folds-preserved g c =
    let n = g.V.RingWord.number in
    let p = c.args.p in
    let mask = mask_plus_one_is_power _ _ c.one.ensures c.minus.ensures c.plus-mask.ensures c.requires.folding.whole in
    let keeps = fold_keeps p (n c.args.c) (n c.args.m) (n c.folds.rest) c.requires.folding.whole in
    let most = fold_bound p (n c.args.c) (n c.folds.rest) (n c.plus-mask.result) (n c.folds.most) mask
    c.folds.invariant.bound in
    record {
      same = rw c.fold_once-rest.ensures (keeps ∙ c.folds.invariant.same);
      bound = rw (
        c.fold_once-rest.ensures,
        c.plus-most-in-folds.ensures,
        c.times-in-folds.ensures,
        c.shift_right.ensures.value,
      )
          (next_bound p (n c.args.c) _ (n c.plus-mask.result) (n c.folds.most) most);
    }

-- the last fold
last_fold_below_twice_modulus : (g : _) (c : After-fold_once g)
    → g.V.RingWord.number c.fold_once.result < 2 * g.V.RingWord.number c.args.m
last_fold_below_twice_modulus g c = search (arith, fold_bound, mask_plus_one_is_power)

last_same : (g : _) (c : After-fold_once g)
    → g.V.RingWord.number c.fold_once.result % g.V.RingWord.number c.args.m
    ≡ g.V.RingWord.number c.args.v % g.V.RingWord.number c.args.m
last_same g c = search (arith, fold_keeps)

pub returns : goal.returns
returns g c = record { twice = last_fold_below_twice_modulus g c; same = last_same g c }

pub folds-init : goal.folds-init
folds-init g c = search (arith, mask_plus_one_is_power, mul-le-mul_right)
