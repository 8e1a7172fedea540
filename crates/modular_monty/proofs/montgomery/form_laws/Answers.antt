use Rattle.std.proofs.Common.{arith}
use Rattle.modular_monty.proofs.Twos.{parted_at, odd_form}
use Rattle.modular_monty.proofs.montgomery.form_laws.Goals as goal

pub returns : goal.returns
returns g c =
    let w = g.T.RingWord.width in
    record {
      whole = λ m h l. (parted_at w m h l).whole;
      odd = λ m h l. (parted_at w m h l).odd;
      form = λ m v e. odd_form w m v (omega (arith, g.met.T.RingWord.width_from)) e;
    }
