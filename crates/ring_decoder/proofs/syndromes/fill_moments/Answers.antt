use Rattle.num_modular.specs.Callers.{◌≡◌, ℕ, ◌+◌, ◌*◌, ◌%◌, ◌∙◌, ap, arith, length, entry, held_entry}
use Rattle.num_modular.specs.Sums.{sum_below}
use Rattle.ring_codes.proofs.Congruences.{mod_of_residue}
use Rattle.ring_decoder.proofs.SyndromeRoots.{moments_of}
use Rattle.ring_decoder.proofs.syndromes.fill_moments.Goals as goal

pub returns-clause-moments : goal.returns-clause-moments
returns-clause-moments g c n x w are =
    let ring = g.R.Reducer in let m = ring.modulus c.args.r.now in let number = g.T.RingWord.number in
    let product = c.expand_roots.new.coefficients in let f = entry number ring.value m product in
    let t = entry number ring.value m c.args.syndromes.now in let lost = c.args.lost.now in
    let count : length product ≡ length lost + 1 = omega arith in
    let v : ℕ → ℕ → ℕ = λ n h. sum_below n (λ k. f k * t (h + k)) in
    moments_of m (length c.args.moments.now) (length lost) n (entry number ring.value m lost) f x w t _
    c.expand_roots.ensures.roots (rw c.requires.count at are)
    (λ h l. mod_of_residue (held_entry number ring.form ring.value m c.moments.moments
    (λ h. v (length product) h % m) c.moments.h h c.moments.invariant (omega arith) (omega arith)
    ∙ ap (λ n. v n h % m) count))
