use Rattle.num_modular.specs.Callers.{◌≡◌, ◌<◌, ◌+◌, ℕ, ◌∙◌, arith, length}
use Rattle.num_modular.specs.Callers.{entry, entry_at, entry_read, forms_written, done_more}
use Rattle.num_modular.specs.Congruence.{Congruent}
use Rattle.num_modular.specs.NumberLaws.{difference_and}
use Rattle.num_modular.specs.Residues.{residue}
use Rattle.std.proofs.Common.{get_or, pos, ◌-ℤ◌}
use Rattle.ring_decoder.proofs.choices.subtract.Goals as goal

-- what is left of a symbol, and its error
less_error : (m x a b y e : ℕ) → 0 < m → x ≡ residue m (pos a -ℤ pos b) → a ≡ y → b ≡ e → Congruent m (x + e) y
less_error m x a b y e positive is at error = rw (is, ← error, ← at) (record { same = difference_and m a b positive })

pub places-preserved : goal.places-preserved
places-preserved g c =
    let ring = g.R.Reducer in let m = ring.modulus c.args.r.now in let number = g.T.RingWord.number in
    let positive = (g.met.R.Reducer.canonical c.args.r.now).positive in
    let errors = c.args.errors.now in let word = c.places.word in let i = c.places.i in
    let e = entry number ring.value m errors in let old = entry number ring.value m c.args.word.now in
    let so_far = c.places.invariant in let test = c.places-test.true in
    let within : i < length word = omega (arith, test, c.places.auto.word, c.requires.room) in
    let x = c.sub-symbol.result in
    let at = entry_at number ring.value m word i c.index-word-i.result within ∙ so_far.1.kept i (omega arith) in
    let error = entry_read number ring.value m errors i _ test c.index-errors-i.is in (
      forms_written number ring.form ring.value m word i x c.sub-symbol.ensures.checked so_far.0,
      done_more number ring.value m word i x (λ i new. Congruent m (new + e i) (old i)) old within so_far.1
          (less_error m (ring.value m (number x)) (ring.value m (number (get_or word i c.index-word-i.result)))
          (ring.value m (number c.index-errors-i.result)) (old i) (e i) positive c.sub-symbol.ensures.value at error),
    )
