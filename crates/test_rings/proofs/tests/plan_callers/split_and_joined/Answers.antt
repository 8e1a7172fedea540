use Rattle.std.proofs.Common.{◌≡◌, ℕ, ◌+◌, ◌*◌, ◌/◌, ◌%◌, ◌≤◌, length, sym, ◌∙◌, ap, arith, subst}
use Rattle.std.proofs.Math.Nat.{mod-mod}
use Rattle.std.proofs.lemmas.Nat.{mul-mod_first}
use Rattle.modular_plan_passes.specs.Plans.{numbers, AreTwiddles, AreRemainders}
use Rattle.num_modular.specs.PlanConditions.{AreBlocks}
use Rattle.test_rings.proofs.tests.plan_callers.split_and_joined.Goals as goal

-- an inverse takes its number away
inverse_gone : (m count part x : ℕ) → (count * part) % m ≡ 1 % m → (count * x * part) % m ≡ x % m
inverse_gone m count part x one =
    let turn : count * x * part ≡ count * part * x = omega arith in
    let o : 1 * x ≡ x = omega arith in
    ap (λ v. v % m) turn ∙ sym (mul-mod_first (count * part) x m) ∙ ap (λ v. (v * x) % m) one
    ∙ mul-mod_first 1 x m ∙ ap (λ v. v % m) o

-- remainders are their own residues
own_residues : (m g z b count last : ℕ) (x u : ℕ → ℕ) → AreRemainders m g z b count last x u
    → AreRemainders m g z b count last x (λ i. u i % m)
own_residues m g z b count last x u are =
    record { each = λ j i lj li. ap (λ v. v % m) (are.each j i lj li) ∙ mod-mod _ m }

pub fill_table-requires-clause-below : goal.fill_table-requires-clause-below
fill_table-requires-clause-below g c = c.requires.below

pub fill_table-requires-clause-suits : goal.fill_table-requires-clause-suits
fill_table-requires-clause-suits g c = c.requires.suits

pub split-requires-clause-entries : goal.split-requires-clause-entries
split-requires-clause-entries g c = c.requires.entries

pub split-requires-clause-factors : goal.split-requires-clause-factors
split-requires-clause-factors g c = c.fill_table.ensures.factors

pub split-requires-clause-blocks : goal.split-requires-clause-blocks
split-requires-clause-blocks g c =
    subst (λ k. AreBlocks (length c.args.xs.now) k c.args.block.0 c.args.block.1) (omega arith) c.requires.blocks

pub join_scaled-requires-clause-entries : goal.join_scaled-requires-clause-entries
join_scaled-requires-clause-entries g c = λ k d l. omega (arith, c.split.ensures.below k d l)

pub join_scaled-requires-clause-factors : goal.join_scaled-requires-clause-factors
join_scaled-requires-clause-factors g c = c.fill_table.ensures.factors

pub join_scaled-requires-clause-blocks : goal.join_scaled-requires-clause-blocks
join_scaled-requires-clause-blocks g c =
    let b = c.args.block.0 in
    let last = c.args.block.1 in
    subst (λ k. AreBlocks k (length c.fill_table.new.table) b last) (omega arith)
    (subst (λ k. AreBlocks (length c.args.xs.now) k b last) (omega arith) c.requires.blocks)

pub join_scaled-requires-clause-factor : goal.join_scaled-requires-clause-factor
join_scaled-requires-clause-factor g c = c.requires.factor

pub returns : goal.returns
returns g c =
    let n = g.T.RingWord.number in
    let m = n c.args.m.now.modulus in
    let root = n c.args.g in
    let b = c.args.block.0 in
    let last = c.args.block.1 in
    let z = c.requires.suits.power_of_two.0 in
    let table = numbers (λ f. n f.value) c.fill_table.new.table in
    let twiddles : AreTwiddles m root z (length c.fill_table.new.table) table =
    subst (λ k. AreTwiddles m root z k table) (omega arith)
    (c.fill_table.ensures.twiddles z (sym c.requires.suits.power_of_two.1)) in
    let same : length c.args.xs.now / last ≡ length c.split.new.xs / last = ap (λ k. k / last) (omega arith) in
    let remainders = subst (λ k. AreRemainders m root z b k last (numbers n c.args.xs.now) (numbers n c.split.new.xs))
    same (c.split.ensures.remainders root z twiddles) in
    λ i l.
    c.join_scaled.ensures.joined root z (numbers n c.args.xs.now) twiddles
    (own_residues m root z b _ last _ _ remainders) i (omega arith)
    ∙ ap (λ k. (k * numbers n c.args.xs.now i * n c.args.part.now.value) % m) (sym same)
    ∙ inverse_gone m (length c.args.xs.now / last) (n c.args.part.now.value)
    (numbers n c.args.xs.now i) c.requires.inverse.one
