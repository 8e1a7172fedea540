use Rattle.std.proofs.Common.{ℕ, List, get_or, arith, ◌∙◌}
use Rattle.std.proofs.lemmas.List.{length-set}
use Rattle.num_modular.specs.Inverses.{IsInverse}
use Rattle.num_modular.specs.Systems.{range_below}
use Rattle.num_modular.specs.SystemLaws.{set_more}
use Rattle.residue_numbers.proofs.mixed_radix.fill_inverses.Goals as goal

pub moduli-preserved : goal.moduli-preserved
moduli-preserved c =
    let ms : List ℕ = c.args.moduli.now in let place : ℕ = c.moduli.place in
    let x : ℕ = c.in-Some.inverse in
    let before = c.moduli.invariant in
    record {
      entries = length-set c.moduli.inverses place x ∙ before.entries;
      inverted = set_more c.moduli.inverses place x (λ i r. IsInverse (get_or ms i 0) (range_below i ms) r)
          (omega (arith, before.entries)) before.inverted c.in-Some.ensures.1;
    }
