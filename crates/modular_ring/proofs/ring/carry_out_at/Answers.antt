use Rattle.std.proofs.Common.{◌≡◌, ℕ, ◌<◌, map, length, Some, arith, below_more, refl}
use Rattle.std.specs.List.{slice_get}
use Rattle.std.proofs.lemmas.Option.{slice_get_read}
use Rattle.modular_reduced.proofs.ListSteps.{held_checked}
use Rattle.modular_ring.specs.Ring.{whole, value_at, LacksInverseAt}
use Rattle.modular_ring.specs.declared.ring.RingCommand.{RingCommand}
use Rattle.modular_ring.proofs.RunLemmas.{after_command, command_lacks_inverse_at_place, lacks_of, start_holds}
use Rattle.modular_ring.proofs.RunLemmas.{read_map, true_not_false}
use Rattle.modular_ring.proofs.ring.carry_out_at.Goals as goal

-- what a command represents, over whole numbers
abbrev over_wholes : {T C : Type 0} → (T → ℕ) → (C → RingCommand T) → C → RingCommand ℕ
over_wholes number command_of c = whole number (command_of c)

pub returns-then-done : goal.returns-then-done
returns-then-done g c =
    let number = g.T.RingWord.number in let form = g.R.Reducer.form in
    let m = g.R.Reducer.modulus c.args.r.now in
    let read_as = over_wholes number g.C.AsCommand.command in
    let wholes = map read_as c.args.commands.now in
    let at = c.args.at.now in
    let command = c.index-commands-at.result in
    let within : at < length c.args.commands.now = omega (arith, c.requires.within) in
    let read = slice_get_read c.args.commands.now _ at command refl within c.index-commands-at.is in
    let is : slice_get wholes at ≡ Some (read_as command) =
    read_map read_as c.args.commands.now at command read in
    let told = c.if-done.true in
    record {
      count = c.carry_out-done.ensures.count;
      checked = held_checked number c.carry_out-done.new.regs _ (g.met.R.Reducer.canonical c.args.r.now)
          (c.carry_out-done.ensures.values told _ (start_holds number form g.R.Reducer.value m c.args.regs.now
          c.requires.checked));
      holds = c.carry_out-done.ensures.holds;
      reached = λ start reached. record {
        held = after_command number form m start wholes at c.carry_out-done.new.regs (read_as command) is
            ((rw c.command.ensures at c.carry_out-done.ensures.values) told (value_at m start wholes at) reached.held);
        passed = below_more (λ j. LacksInverseAt m start wholes j → ⊥) at reached.passed
            (λ lacks. absurd (true_not_false told
            (((rw c.command.ensures at c.carry_out-done.ensures.missing) (value_at m start wholes at) reached.held).1
            (lacks_of m start wholes at (read_as command) is lacks))));
      };
      lacks = λ fails. absurd (true_not_false told fails);
      moved = λ holds. refl;
    }

pub returns-else-done : goal.returns-else-done
returns-else-done g c =
    let m = g.R.Reducer.modulus c.args.r.now in
    let read_as = over_wholes g.T.RingWord.number g.C.AsCommand.command in
    let wholes = map read_as c.args.commands.now in
    let at = c.args.at.now in
    let command = c.index-commands-at.result in
    let within : at < length c.args.commands.now = omega (arith, c.requires.within) in
    let read = slice_get_read c.args.commands.now _ at command refl within c.index-commands-at.is in
    let kept = c.carry_out-done.ensures.kept c.if-done.false in
    record {
      count = c.carry_out-done.ensures.count;
      checked = rw kept c.requires.checked;
      holds = c.carry_out-done.ensures.holds;
      reached = λ start reached. rw kept reached;
      lacks = λ fails start reached. command_lacks_inverse_at_place m start wholes at (read_as command)
          (read_map read_as c.args.commands.now at command read)
          (((rw c.command.ensures at c.carry_out-done.ensures.missing) (value_at m start wholes at) reached.held).0
          fails);
      moved = λ holds. absurd (true_not_false holds c.if-done.false);
    }
