use Rattle.residue_numbers.proofs.combination.quotient_modulo.Goals as goal

pub returns-in-None-clause-solved : goal.returns-in-None-clause-solved
returns-in-None-clause-solved c =
    let (x, is) = (c.inverse_laws.ensures.coprime c.args.v c.args.u c.requires.positive).1 c.requires.coprime in
    absurd (c.in-None.ensures x is)
