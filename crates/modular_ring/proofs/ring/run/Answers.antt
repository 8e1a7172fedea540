use Rattle.std.proofs.Common.{◌≡◌, ℕ, ◌<◌, List, arith, length, map, subst, refl}
use Rattle.std.proofs.lemmas.List.{length-map}
use Rattle.modular_reduced.specs.declared.reducer.Reducer as reducer
use Rattle.modular_reduced.specs.Checked.{AreChecked}
use Rattle.modular_reduced.proofs.ListSteps.{held_values}
use Rattle.modular_ring.specs.Ring.{IsStop, whole, values_of, value_at, HoldValues}
use Rattle.modular_ring.specs.RunSteps.{IsReached}
use Rattle.modular_ring.specs.declared.ring.RingCommand.{RingCommand}
use Rattle.modular_ring.specs.declared.ring.RunEnd.TheVariants.{Done, NoInverse}
use Rattle.modular_ring.proofs.RunLemmas.{stops_at, not_done, never_stops, start_holds}
use Rattle.modular_ring.proofs.ring.run.Goals as goal

no_number_below_zero : (j : ℕ) → j < 0 → ⊥
no_number_below_zero j h = omega (arith, h)

-- before the first command
start_is_reached : {R T C : Type 0} (ring : reducer.Ghosts R T) (number : T → ℕ) (command_of : C → RingCommand T)
    (r : R) (commands : List C)
    (registers : List T) → AreChecked ring number r registers
    → IsReached ring number command_of r commands (values_of number ring.value (ring.modulus r) registers) registers 0
start_is_reached ring number command_of r commands registers checked = record {
  held = start_holds number ring.form ring.value (ring.modulus r) registers checked;
  passed = λ j h. absurd (no_number_below_zero j h);
}

-- what a command represents, over whole numbers
abbrev over_wholes : {T C : Type 0} → (T → ℕ) → (C → RingCommand T) → C → RingCommand ℕ
over_wholes number command_of c = whole number (command_of c)

pub carry_out_all-requires : goal.carry_out_all-requires
carry_out_all-requires g c = record {
  checked = c.requires.checked;
  fit = c.requires.fit;
  holds = c.first_register-last.ensures;
  within = omega arith;
}

pub returns-then-not-carry_out_all : goal.returns-then-not-carry_out_all
returns-then-not-carry_out_all g c =
    let number = g.T.RingWord.number in
    let form = g.R.Reducer.form in
    let m = g.R.Reducer.modulus c.args.r.now in
    let canonical = g.met.R.Reducer.canonical c.args.r.now in
    let start = values_of number g.R.Reducer.value m c.args.regs.now in
    let wholes = map (over_wholes number g.C.AsCommand.command) c.args.commands.now in
    let before = start_is_reached g.R.Reducer number g.C.AsCommand.command c.args.r.now c.args.commands.now
    c.args.regs.now c.requires.checked in
    let reached = c.carry_out_all.ensures.reached start before in
    let stop : IsStop m start wholes c.carry_out_all.new.at = record {
      lacks = c.carry_out_all.ensures.lacks c.if-not-carry_out_all.true start before;
      first = reached.passed;
    } in
    let count = c.carry_out_all.ensures.count in
    record {
      stops = stops_at stop;
      done = not_done stop;
      values = reached.held;
      checked = c.carry_out_all.ensures.checked;
      residues = λ n h. held_values number c.carry_out_all.new.regs _ n canonical reached.held
          (omega (arith, h, count));
      read = λ n other h. canonical.one_value _ _ (reached.held.each n other (omega (arith, h, count)));
    }

-- a run that is done didn't stop
done_not_stopped : (at : ℕ) → Done ≡ NoInverse at → ⊥
done_not_stopped at e = cc

pub returns : goal.returns
returns g c =
    let number = g.T.RingWord.number in
    let form = g.R.Reducer.form in
    let m = g.R.Reducer.modulus c.args.r.now in
    let canonical = g.met.R.Reducer.canonical c.args.r.now in
    let start = values_of number g.R.Reducer.value m c.args.regs.now in
    let read_as = over_wholes number g.C.AsCommand.command in
    let wholes = map read_as c.args.commands.now in
    let before = start_is_reached g.R.Reducer number g.C.AsCommand.command c.args.r.now c.args.commands.now
    c.args.regs.now c.requires.checked in
    let reached = c.carry_out_all.ensures.reached start before in
    let all : c.carry_out_all.new.at ≡ length wholes =
    omega (arith, length-map c.args.commands.now read_as, c.carry_out_all.ensures.moved c.if-not-carry_out_all.false) in
    let held : HoldValues number form m c.carry_out_all.new.regs (value_at m start wholes (length wholes)) =
    subst (λ n. HoldValues number form m c.carry_out_all.new.regs (value_at m start wholes n)) all reached.held in
    let never = never_stops (λ j h lacks. reached.passed j (omega (arith, h, all)) lacks) in
    let count = c.carry_out_all.ensures.count in
    record {
      stops = λ at. (λ e. absurd (done_not_stopped at e), λ stop. absurd (never at stop));
      done = (λ e. never, λ h. refl);
      values = held;
      checked = c.carry_out_all.ensures.checked;
      residues = λ n h. held_values number c.carry_out_all.new.regs _ n canonical held (omega (arith, h, count));
      read = λ n other h. canonical.one_value _ _ (held.each n other (omega (arith, h, count)));
    }
