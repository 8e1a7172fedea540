use Rattle.std.proofs.Common.{◌≡◌, ℕ, ◌+◌, ◌*◌, ◌/◌, ◌%◌, ◌<◌, length, refl, ap, ◌∙◌, arith}
use Rattle.modular_word.specs.Congruence.{Congruent}
use Rattle.modular_word.proofs.Congruence.{mod_of_eq, mod_refl, mod_sym, mod_trans, mod_mul, residue_of}
use Rattle.modular_word.proofs.ReductionSteps.{base_inverse}
use Rattle.modular_plan_passes.specs.Plans.{numbers}
use Rattle.modular_plan_passes.proofs.Entries.{all_wider}
use Rattle.modular_plan_transforms.proofs.Convolutions.{blocks_of}
use Rattle.modular_plan_transforms.proofs.SmallProducts.{are_products_of_one}
use Rattle.modular_plan_transforms.proofs.Reductions.{remainders_times, over_base, made_up_for}
use Rattle.modular_plan_transforms.proofs.convolution.join_products.Goals as goal

pub join_scaled-requires : goal.join_scaled-requires
join_scaled-requires g c =
    let same : length c.reduce_products.new.xs ≡ length c.args.xs.now = omega arith in
    record {
      entries = all_wider g.T.RingWord.number c.reduce_products.new.xs (omega arith) c.reduce_products.ensures.below;
      factors = c.requires.factors;
      blocks = rw same (blocks_of c.requires.blocks);
      factor = c.factor-scaled.ensures.factor;
    }

pub join_scaled-requires-else-last-eq1 : goal.join_scaled-requires-else-last-eq1
join_scaled-requires-else-last-eq1 g c =
    let same : length c.multiply.new.xs ≡ length c.args.xs.now = omega arith in
    record {
      entries = all_wider g.T.RingWord.number c.multiply.new.xs (omega arith) c.multiply.ensures.below;
      factors = c.requires.factors;
      blocks = rw same (blocks_of c.requires.blocks);
      factor = c.requires.factor;
    }

pub returns-then-is_odd : goal.returns-then-is_odd
returns-then-is_odd g c =
    let n = g.T.RingWord.number in
    let base = g.T.PathWord.base in
    let m = n c.args.m.now.modulus in
    let xs = c.args.xs.now in
    let last = c.args.last in
    let one : last ≡ 1 = c.if-last-eq1.true in
    let b = c.args.b in
    let count = length xs / last in
    let old = numbers n xs in
    let others = numbers n c.args.ys.now in
    let new = numbers n c.reduce_products.new.xs in
    let p = λ (k : ℕ). (old k * others k) % m in
    let i = n c.neginv.result in
    let t : ℕ = (m * i + 1) / base in
    let unit : Congruent m (base * t) 1 = record {
      same = base_inverse base m i (omega (arith, c.args.m.now.some, c.args.m.now.room)) c.neginv.ensures;
    } in
    let single : count ≡ length xs = omega (arith, ap (λ v. count * v) one, c.requires.blocks.whole) in
    let same : length c.reduce_products.new.xs ≡ length xs = omega arith in
    let scaled = mod_trans (mod_of_eq (c.factor-scaled.ensures.value ∙ c.times_base.ensures)) (residue_of _) in
    record {
      below = c.join_scaled.ensures.below;
      joined = λ root z twiddles. (
        p,
        are_products_of_one root z b count last old others p one (λ k l. refl),
        λ x are e below.
            let entry = λ (k : ℕ) (l : k < length xs).
            mod_trans (over_base base t (new k) (old k * others k) unit (c.reduce_products.ensures.products k l))
            (mod_mul (mod_refl t) (mod_sym (mod_trans (residue_of (p k)) (residue_of (old k * others k))))) in
            let all = remainders_times root z b count last t x (λ k. p k % m) new are
            (λ j k lj lk. entry (j * last + k) (omega (arith, ap (λ v. j * v) one, single, lj, lk, one))) in
            c.join_scaled.ensures.joined root z (λ k. t * x k) twiddles (rw same all) e (omega arith)
            ∙ ap (λ k. (k / last * (t * x e) * n c.factor-scaled.result.value) % m) same
            ∙ made_up_for base t count (x e) (n c.args.w.now.value) (n c.factor-scaled.result.value) unit scaled,
      );
    }

pub returns-else-last-eq1-clause-joined : goal.returns-else-last-eq1-clause-joined
returns-else-last-eq1-clause-joined g c root z twiddles =
    let n = g.T.RingWord.number in
    let same : length c.multiply.new.xs ≡ length c.args.xs.now = omega arith in (
      numbers n c.multiply.new.xs,
      c.multiply.ensures.products root z twiddles,
      λ x are e below.
          c.join_scaled-else-last-eq1.ensures.joined root z x twiddles (rw same are) e (omega arith)
          ∙ ap (λ k. (k / c.args.last * x e * n c.args.w.now.value) % n c.args.m.now.modulus) same,
    )
