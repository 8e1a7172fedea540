use Rattle.std.proofs.Common.{◌+◌, ◌-◌, ◌/◌, arith, ap}
use Rattle.num_modular.specs.NumberLaws.{mod_of_eq, mod_trans}
use Rattle.num_modular.specs.PlanLaws.{number_at}
use Rattle.lattice_rings.proofs.Remainders.{even_square_congruent, odd_square_congruent}
use Rattle.lattice_rings.proofs.ml_kem.Ring.square.Goals as goal

pub returns-then-i-eq0-clause-value : goal.returns-then-i-eq0-clause-value
returns-then-i-eq0-clause-value c =
    mod_trans (mod_of_eq (number_at (λ f. f.value) c.args.self.now.table (64 + c.args.i / 2) _ (omega arith)))
    (even_square_congruent c.args.self.now c.args.i c.requires c.if-i-eq0.true)

pub returns-else-i-eq0-clause-value : goal.returns-else-i-eq0-clause-value
returns-else-i-eq0-clause-value c =
    mod_trans
    (mod_of_eq (ap (λ v. 3329 - v) (number_at (λ f. f.value) c.args.self.now.table (64 + c.args.i / 2) _
    (omega arith))))
    (odd_square_congruent c.args.self.now c.args.i c.requires c.if-i-eq0.false)
