use Rattle.num_modular.specs.Callers.{◌≡◌, ◌<◌, ◌∙◌, ℕ, sym, arith, length, entry}
use Rattle.std.proofs.Common.{slice_index}
use Rattle.ring_codes.proofs.RootPowers.{powers_fit}
use Rattle.ring_erasures.proofs.RestoredWords.{values_of_roots, lost_values_unit, factors_are}
use Rattle.ring_erasures.proofs.pattern.fill_factors.Goals as goal

pub returns-clause-factors : goal.returns-clause-factors
returns-clause-factors g c points powers =
    let ring = g.R.Reducer in let m = ring.modulus c.args.r.now in let number = g.T.RingWord.number in
    let positive = (g.met.R.Reducer.canonical c.args.r.now).positive in
    let n : ℕ = length c.args.factors.now in let lost = c.args.lost.now in let erased = c.requires.erased in
    let powers_x = rw c.split_at_mut-list.ensures.front_len at c.fill_powers.ensures.powers in
    let fit = powers_fit m _ n points c.requires.odd c.requires.suits powers in
    let same_list : length c.fill_powers.new.points ≡ n =
    c.fill_powers.auto.points ∙ c.split_at_mut-list.ensures.front_len in
    let count : length c.gather.new.numbers ≡ length lost =
    c.gather.auto.numbers ∙ c.split_at_mut-chosen.ensures.front_len in
    let e = entry number ring.value m c.expand_roots.new.coefficients in
    let long : length c.expand_roots.new.coefficients ≡ n =
    c.expand_roots.auto.coefficients ∙ c.split_at_mut-coefficients.ensures.front_len in
    let locator = values_of_roots m n _ (length lost) _ (λ l. points (slice_index lost l)) e count
    (omega (arith, erased.enough)) (λ l b. let w = erased.places.within l b in
    c.gather.ensures.same l b ∙ powers_x.power _ w ∙ sym (powers.power _ w))
    c.expand_roots.ensures.roots c.expand_roots.ensures.behind in
    let encoding = rw long at (c.encode_by_transform.ensures.encoding points powers) in
    let values = rw (long, same_list) at (c.encode_derivative.ensures.encoding points (rw same_list powers)) in
    let again : length c.gather-2.new.numbers ≡ length lost = c.gather-2.auto.numbers ∙ count in
    let all = c.invert_each-all.ensures.each.1 (λ i b. let l : i < length lost = omega (arith, b, again) in
    rw (c.gather-2.ensures.same i l) (lost_values_unit m n points e _ lost positive fit erased locator values i l).1) in
    factors_are m n points e _ lost positive fit erased locator values
    (entry number ring.value m c.invert_each-all.new.forms) _ _ encoding (λ l b.
    rw (c.gather-2.ensures.same l b) at (c.invert_each-all.ensures.inverses all l (omega (arith, b, again))))
    c.scatter.ensures.there
