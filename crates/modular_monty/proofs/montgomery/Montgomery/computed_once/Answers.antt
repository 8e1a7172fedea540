use Rattle.modular_monty.specs.TwoPartLaws.{odd_part_is}
use Rattle.modular_monty.proofs.montgomery.Montgomery.computed_once.Goals as goal

pub returns : goal.returns
returns g c =
    let ring = c.args.self.now.ring in
    rw (odd_part_is ring) ring.odd
