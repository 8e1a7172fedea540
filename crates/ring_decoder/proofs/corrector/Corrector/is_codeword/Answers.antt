use Rattle.num_modular.specs.Callers.{◌∙◌, arith, length, entry, values_below}
use Rattle.ring_decoder.proofs.CorrectedWords.{codeword_by_zeros}
use Rattle.ring_decoder.specs.Syndromes.{AreSyndromes}
use Rattle.ring_decoder.proofs.corrector.Corrector.is_codeword.Goals as goal

pub returns : goal.returns
returns g c =
    let self = c.args.self.now in let ring = g.R.Reducer in let m = ring.modulus self.ring.now in
    let number = g.T.RingWord.number in let entries = entry number ring.value m in let room = c.requires.room in
    let wrote = c.write_syndromes in let forms = wrote.new.syndromes in
    let known : AreSyndromes m self.k (length self.points.now) (length forms) (entries self.points.now)
    (entries self.weights.now) (entries c.args.word.now) (entries forms) = record {
      positive = (g.met.R.Reducer.canonical self.ring.now).positive;
      few = self.few;
      count = wrote.auto.syndromes ∙ c.split_at_mut-syndromes.ensures.front_len;
      weights = self.inverses;
      below = λ i l. values_below number ring.form ring.value m c.args.word.now i c.requires.word
          (omega (arith, l, room));
      small = λ h l. values_below number ring.form ring.value m forms h wrote.ensures.checked l;
      sums = rw (← wrote.auto.syndromes) at wrote.ensures.sums;
    } in
    let both = codeword_by_zeros known in search (arith, both.0, both.1, c.count_zeros.ensures)
