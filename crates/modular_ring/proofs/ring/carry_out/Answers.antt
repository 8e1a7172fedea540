use Rattle.std.proofs.Common.{arith}
use Rattle.std.proofs.Common.{◌≡◌, ℕ, ◌+◌, ◌*◌, ◌%◌, ◌-ℤ◌, pos, List, Some, length, get_or, refl, ap}
use Rattle.std.proofs.Math.ListN.{set}
use Rattle.modular_word.specs.Residues.{residue}
use Rattle.modular_ring.specs.declared.ring.RingCommand.{RingCommand}
use Rattle.modular_ring.specs.declared.ring.RingCommand.TheVariants.{Add, Sub, Mul}
use Rattle.modular_ring.specs.Ring.{HoldValues, IsFit, IsFormOf, whole, destination_of, outcome, value_after}
use Rattle.modular_ring.specs.RunSteps.{Combines}
use Rattle.modular_ring.proofs.RunLemmas.{after_found, destination_below, finds_here, lacks_here, form_of_two}
use Rattle.modular_ring.proofs.ring.carry_out.Goals as goal

-- registers after the write of a form that the command writes
after_write : {T : Type 0} (number : T → ℕ) (form : ℕ → ℕ → ℕ) (m : ℕ) {before after : List T} {v : ℕ → ℕ}
    (command : RingCommand T) (f : T)
    → HoldValues number form m before v → IsFit (length before) command
    → after ≡ set before (destination_of (whole number command)) f
    → IsFormOf number form m (outcome m v (whole number command)) (Some f)
    → HoldValues number form m after (value_after m v (Some (whole number command)))
after_write number form m {before} {after} {v} command f holds fit written found =
    search (arith, after_found, destination_below)

-- what is no sum, no difference and no product
other_command_does_not_combine : {T : Type 0} (command : RingCommand T) → ((x y z : ℕ) → command ≡ Add x y z → ⊥)
    → ((x y z : ℕ) → command ≡ Sub x y z → ⊥) → ((x y z : ℕ) → command ≡ Mul x y z → ⊥) → Combines command → ⊥
other_command_does_not_combine (Add dst a b) no_sum no_difference no_product combines = no_sum dst a b refl
other_command_does_not_combine (Sub dst a b) no_sum no_difference no_product combines = no_difference dst a b refl
other_command_does_not_combine (Mul dst a b) no_sum no_difference no_product combines = no_product dst a b refl
other_command_does_not_combine _ no_sum no_difference no_product combines = combines

pub returns-in-Add-clause-values : goal.returns-in-Add-clause-values
returns-in-Add-clause-values g c done v holds =
    let m = g.R.Reducer.modulus c.args.r.now in
    let fit = rw c.in-Add.is at c.requires.fit in
    rw c.in-Add.is (after_write g.T.RingWord.number g.R.Reducer.form m
    (Add c.in-Add.dst c.in-Add.a c.in-Add.b) c.add-form.result holds fit c.write.ensures.written
    (form_of_two {v = v} (λ x y. (x + y) % m) c.in-Add.a c.in-Add.b
    c.held.result _ (g.met.R.Reducer.canonical c.args.r.now) holds fit.1 fit.2 c.held.ensures
    (ap (get_or c.args.regs.now c.in-Add.b) c.index-regs-b.is) c.add-form.ensures.form))

pub returns-in-Sub-clause-values : goal.returns-in-Sub-clause-values
returns-in-Sub-clause-values g c done v holds =
    let m = g.R.Reducer.modulus c.args.r.now in
    let fit = rw c.in-Sub.is at c.requires.fit in
    rw c.in-Sub.is (after_write g.T.RingWord.number g.R.Reducer.form m
    (Sub c.in-Sub.dst c.in-Sub.a c.in-Sub.b) c.sub-form.result holds fit c.write-in-Sub.ensures.written
    (form_of_two {v = v} (λ x y. residue m (pos x -ℤ pos y)) c.in-Sub.a c.in-Sub.b
    c.held-in-Sub.result _ (g.met.R.Reducer.canonical c.args.r.now) holds fit.1 fit.2 c.held-in-Sub.ensures
    (ap (get_or c.args.regs.now c.in-Sub.b) c.index-regs-b-in-Sub.is) c.sub-form.ensures.form))

pub returns-in-Mul-clause-values : goal.returns-in-Mul-clause-values
returns-in-Mul-clause-values g c done v holds =
    let m = g.R.Reducer.modulus c.args.r.now in
    let fit = rw c.in-Mul.is at c.requires.fit in
    rw c.in-Mul.is (after_write g.T.RingWord.number g.R.Reducer.form m
    (Mul c.in-Mul.dst c.in-Mul.a c.in-Mul.b) c.mul-form.result holds fit c.write-in-Mul.ensures.written
    (form_of_two {v = v} (λ x y. (x * y) % m) c.in-Mul.a c.in-Mul.b
    c.held-in-Mul.result _ (g.met.R.Reducer.canonical c.args.r.now) holds fit.1 fit.2 c.held-in-Mul.ensures
    (ap (get_or c.args.regs.now c.in-Mul.b) c.index-regs-b-in-Mul.is) c.mul-form.ensures.form))

pub returns-in-Some-clause-values : goal.returns-in-Some-clause-values
returns-in-Some-clause-values g c done v holds =
    let number = g.T.RingWord.number in
    let m = g.R.Reducer.modulus c.args.r.now in
    rw (c.write-in_default.ensures.written, c.destination.ensures.value) (after_found number g.R.Reducer.form
    (g.R.Reducer.modulus c.args.r.now) c.args.regs.now v (whole number c.args.command) c.in-Some.form _ refl holds
    (destination_below number (length c.args.regs.now) c.args.command c.requires.fit) (c.in-Some.ensures v holds))

pub returns-in-Some-clause-missing : goal.returns-in-Some-clause-missing
returns-in-Some-clause-missing g c v holds = search (arith, finds_here)

pub returns-in_default-computed_form-clause-missing : goal.returns-in_default-computed_form-clause-missing
returns-in_default-computed_form-clause-missing g c v holds = search (arith, lacks_here)

pub computed_form-requires : goal.computed_form-requires
computed_form-requires g c = search (arith, other_command_does_not_combine)
