use Rattle.num_modular.specs.Callers.{arith, length, entry, held_entry}
use Rattle.num_modular.specs.NumberLaws.{mod_of_eq, mod_trans, residue_of}
use Rattle.ring_decoder.proofs.CheckTables.{checked_sum}
use Rattle.ring_decoder.proofs.checks.fill_checked_syndromes.Goals as goal

pub returns-clause-sums : goal.returns-clause-sums
returns-clause-sums g c x v table =
    let ring = g.R.Reducer in let m = ring.modulus c.args.r.now in let number = g.T.RingWord.number in
    let y = entry number ring.value m c.args.word.now in let checks = entry number ring.value m c.args.checks.now in
    record {
      sum = λ h l. mod_trans (mod_of_eq (held_entry number ring.form ring.value m c.syndromes.syndromes _ c.syndromes.h
          h
          c.syndromes.invariant (omega arith) (omega arith)))
          (mod_trans (residue_of _) (checked_sum m _ (length c.args.word.now) h x v y checks table l));
    }
