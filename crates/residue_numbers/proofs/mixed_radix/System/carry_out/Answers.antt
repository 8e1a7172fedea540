use Rattle.std.proofs.Common.{◌≡◌, ℕ, ◌<◌, List, length, map, arith, sym, ◌∙◌}
use Rattle.std.specs.List.{slice_get}
use Rattle.num_modular.specs.declared.ring.RingCommand.{RingCommand}
use Rattle.residue_numbers.proofs.Encodings.{modulus_is_factor}
use Rattle.residue_numbers.proofs.Runs.{InverseLaws, none_lacks_above, values_within, lacks_above}
use Rattle.residue_numbers.proofs.Columns.{over_whole, register_word, more_run, more_again}
use Rattle.residue_numbers.proofs.mixed_radix.System.carry_out.Goals as goal

pub moduli-preserved : goal.moduli-preserved
moduli-preserved g c =
    let before = c.moduli.invariant in
    let done = c.run_column-carried.ensures in
    let kept = c.first_kept-again.ensures in record {
      within = omega (arith, done.most, before.within);
      first = omega (arith, kept.most);
      run = λ start entries with.
          let forms = entries ∙ sym c.moduli.auto.forms in
          more_run _ start _ _ _ _ _ _ _ _ (before.run start entries with) (done.run start forms with)
          (λ r i h. done.kept r i (omega (arith, h, forms))) done.most (omega arith) kept.less kept.all;
    }

pub again-init : goal.again-init
again-init g c start entries with r i h within side =
    (c.moduli.invariant.run start entries with).values r i h (side (omega arith)) (omega arith)

pub again-preserved : goal.again-preserved
again-preserved g c start entries with =
    let done = c.run_column.ensures in
    let first = c.moduli.invariant in
    let forms = entries ∙ sym (c.again.auto.forms ∙ c.moduli.auto.forms) in
    more_again _ start _ _ _ _ _ _ _ (c.again.invariant start entries with) (done.run start forms with)
    (λ r i h. done.kept r i (omega (arith, h, forms))) done.most
    ((first.run start entries with).each c.again.place (omega (arith, c.again-test.true, first.first)))

pub returns-clause-run : goal.returns-clause-run
returns-clause-run g c start entries with =
    let laws : InverseLaws = grind arith in
    let ms : List ℕ = c.args.self.now.moduli.now in let positive = c.args.self.now.coprime.positive in
    let wholes : List (RingCommand ℕ) = map (over_whole g.C.AsCommand.command) c.args.commands.now in
    let all : c.moduli.place ≡ length ms = omega arith in
    let was = c.moduli.invariant.run start entries with in
    let none = none_lacks_above laws ms start wholes positive c.moduli.carried
    (λ i h. was.each i (omega (arith, h, all))) in
    let values = λ (i : ℕ) (h : i < length ms).
    values_within laws (modulus_is_factor ms positive i h) start wholes c.moduli.carried none in record {
      carried = record {
        before = none;
        next = λ h.
            let (i, l, lacks) = was.next h in let k : i < length ms = omega (arith, l, all) in
            lacks_above laws (modulus_is_factor ms positive i k) _ _ (values i k) (slice_get wholes _) lacks;
      };
      residues = λ r h. record {
        each = λ i l. register_word (length ms) c.again.registers r i l
            ∙ c.again.invariant start entries with r i h l (λ from. omega arith) ∙ sym (values i l r);
      };
    }
