use Rattle.std.proofs.Common.{◌+◌, length, sym, subst}
use Rattle.long_product.specs.Room.{HasScratch}
use Rattle.long_product.proofs.polynomials.fill.Goals as goal

pub entries_for-n-requires-clause-room : goal.entries_for-n-requires-clause-room
entries_for-n-requires-clause-room g c =
    subst (λ t. HasScratch (length c.args.xs.now + length c.args.ys.now) (length c.args.words.now) t)
    (sym c.factors.ensures)
    (c.requires.room.scratch c.if-xs-lt-LEAST_TRANSFORMED.false c.if-ys-lt-LEAST_TRANSFORMED.false)
