use Rattle.ring_codes.proofs.Names.{◌∙◌, entry_read, refl, arith}
use Rattle.ring_codes.proofs.erasure.secrets.recover.Goals as goal

pub returns-in-Ok-clause-secret : goal.returns-in-Ok-clause-secret
returns-in-Ok-clause-secret g c original word is read =
    let ring = g.R.Reducer in let m = ring.modulus c.args.r.now in
    entry_read g.T.RingWord.number ring.value m c.restore.new.message 0 c.index-coefficients-0.result
    (omega (arith, c.requires.some)) c.index-coefficients-0.is
    ∙ c.in-Ok.ensures.original refl original word is read 0 (omega (arith, c.requires.some))
