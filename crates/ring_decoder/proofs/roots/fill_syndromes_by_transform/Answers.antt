use Rattle.num_modular.specs.Callers.{◌≡◌, ◌-◌, ◌∙◌, ap, arith, length}
use Rattle.num_modular.specs.Callers.{entry, held_entry}
use Rattle.ring_decoder.proofs.RootSyndromes.{syndromes_by_transform}
use Rattle.ring_decoder.proofs.roots.fill_syndromes_by_transform.Goals as goal

pub returns-clause-sums : goal.returns-clause-sums
returns-clause-sums g c t x v powers fit weights =
    let ring = g.R.Reducer in let m = ring.modulus c.args.r.now in let number = g.T.RingWord.number in
    let positive = (g.met.R.Reducer.canonical c.args.r.now).positive in
    let a = ring.value m (number c.args.g.now) in let word = c.args.word.now in let found = c.intt.new.xs in
    let copied = c.copy_from_slice.ensures.after in
    let count : length found ≡ length word = c.intt.auto.xs ∙ ap length copied in
    let f = entry number ring.value m found in
    syndromes_by_transform m a (length word) (length c.args.syndromes.now) x v f (entry number ring.value m word)
    (entry number ring.value m c.syndromes.syndromes) positive c.requires.few c.requires.suits powers fit weights
    (rw copied at (c.intt.ensures.values c.if-not-intt.false))
    (λ h l. held_entry number ring.form ring.value m c.syndromes.syndromes (λ h. f (length found - 1 - h)) c.syndromes.h
    h
    c.syndromes.invariant (omega arith) (omega arith) ∙ ap (λ n. f (n - 1 - h)) count)
