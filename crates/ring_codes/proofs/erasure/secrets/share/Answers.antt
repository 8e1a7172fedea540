use Rattle.ring_codes.proofs.Names.{false≢true, refl, arith, rules}
use Rattle.ring_codes.proofs.erasure.secrets.share.Goals as goal

pub returns-then-not-points_fit : goal.returns-then-not-points_fit
returns-then-not-points_fit g c = (
  (
    record { some = search rules; enough = omega arith; inverses = c.if-not-have_inverses.ensures.0 refl },
    λ fit. false≢true (c.if-not-points_fit.ensures.1 fit),
  ),
  refl,
)
