-- Lemmas on registers that hold values, and on the value table.
use Rattle.std.proofs.Common.{◌≡◌, ℕ, ◌+◌, ◌*◌, ◌%◌, ◌<◌, List, length, map, get_or, true, false, Bool}
use Rattle.std.proofs.Common.{cond, eqb, refl, sym, ◌∙◌, ap, subst, arith, ◌≢◌, ◌⊎◌, ◌↔◌, Option, Some, None}
use Rattle.std.proofs.Common.{option_map, All, get_or-set_same, get_or-set_other, add-one, IsSomeAnd, inl, inr, IsTrue}
use Rattle.std.proofs.Common.{IsFalse, ◌≤◌}
use Rattle.std.proofs.Math.ListN.{set, length-set}
use Rattle.std.specs.List.{slice_get}
use Rattle.std.proofs.lemmas.Bool.Decides.{eqb_tells}
use Rattle.std.proofs.lemmas.Option.{slice_get_within, slice_get-map}
use Rattle.std.proofs.lemmas.List.{get_or-map}
use Rattle.std.proofs.lemmas.Bool.{cases_lt}
use Rattle.modular_word.specs.Inverses.{inverse_of}
use Rattle.modular_word.proofs.InverseLemmas.{inverse_of-found, inverse_of-none, inverse_of-empty}
use Rattle.modular_reduced.specs.declared.reducer.Reducer as reducer
use Rattle.modular_reduced.specs.Forms.{Represents, IsForm, IsCanonical, IsInverseForm}
use Rattle.modular_reduced.proofs.FormLemmas.{form_as}
use Rattle.modular_ring.specs.declared.ring.RingCommand.{RingCommand}
use Rattle.modular_ring.specs.declared.ring.RingCommand.TheVariants.{Load, Inv, Div}
use Rattle.modular_ring.specs.declared.ring.RunEnd.TheVariants.{Done, NoInverse}
use Rattle.modular_ring.specs.Ring.{HoldValues, IsFormOf, destination_of, outcome, value_after}
use Rattle.modular_ring.specs.Ring.{value_at, LacksInverse, LacksInverseAt, IsStop, values_of, IsFit, whole}
use Rattle.modular_ring.specs.declared.ring.Last.{Last}
use Rattle.modular_ring.specs.RunSteps.{GoesOn, MayGoOn}

-- what is read of register a has the value v a
pub value_of : {T : Type 0} {number : T → ℕ} {form value : ℕ → ℕ → ℕ} {width m : ℕ}
    {registers : List T} {v : ℕ → ℕ} (a : ℕ) (x : T)
    → IsCanonical form value width m → HoldValues number form m registers v → a < length registers
    → x ≡ get_or registers a x → value m (number x) ≡ v a
value_of {T} {number} {form} {value} {width} {m} a x canonical holds below is =
    ap (λ y. value m (number y)) is ∙ canonical.one_value _ _ (holds.each a x below)

-- a form that represents a number computed from the value of the register a that was read represents that of v a
pub form_of_one : {T : Type 0} {number : T → ℕ} {form value : ℕ → ℕ → ℕ} {width m f : ℕ} {registers : List T}
    {v : ℕ → ℕ} (F : ℕ → ℕ) (a : ℕ) (x : T)
    → IsCanonical form value width m → HoldValues number form m registers v
    → a < length registers → x ≡ get_or registers a x
    → Represents form m f (F (value m (number x))) → Represents form m f (F (v a))
form_of_one {T} {number} {form} {value} {width} {m} {f} F a x canonical holds below is stands =
    subst (λ u. Represents form m f (F u)) (value_of a x canonical holds below is) stands

-- the same of two registers
pub form_of_two : {T : Type 0} {number : T → ℕ} {form value : ℕ → ℕ → ℕ} {width m f : ℕ} {registers : List T}
    {v : ℕ → ℕ} (F : ℕ → ℕ → ℕ) (a b : ℕ) (x y : T)
    → IsCanonical form value width m → HoldValues number form m registers v → a < length registers
    → b < length registers → x ≡ get_or registers a x → y ≡ get_or registers b y
    → Represents form m f (F (value m (number x)) (value m (number y))) → Represents form m f (F (v a) (v b))
form_of_two {T} {number} {form} {value} {width} {m} {f} {registers}
    {v} F a b x y canonical holds below_a below_b is_a is_b stands = search (arith, form_of_one)

-- what `inv` returns is the form of `inverse_of`
pub inverse_form : {T : Type 0} (number : T → ℕ) (form : ℕ → ℕ → ℕ) (m u : ℕ) (found : Option T)
    → IsInverseForm number form m u found → IsFormOf number form m (inverse_of m u) found
inverse_form number form m u None h = subst (λ o. IsFormOf number form m o None) (sym (inverse_of-none m u h)) tt
inverse_form number form m u (Some f) h =
    subst (λ o. IsFormOf number form m o (Some f)) (sym (inverse_of-found m u h.0 h.1)) h.2

-- the product of x with what `inv` returns for y is the form of their quotient
pub quotient_form : {T : Type 0} (number : T → ℕ) {form value : ℕ → ℕ → ℕ} {width m : ℕ} (x y : ℕ) (inverse product : T)
    → IsCanonical form value width m → IsInverseForm number form m y (Some inverse)
    → Represents form m (number product) ((x * value m (number inverse)) % m)
    → IsFormOf number form m (option_map (λ i. (x * i) % m) (inverse_of m y)) (Some product)
quotient_form {T} number {form} {value} {width} {m} x y inverse product canonical h stands =
    search (arith, inverse_of-found)

-- checked forms hold their values
pub start_holds : {T : Type 0} (number : T → ℕ) (form value : ℕ → ℕ → ℕ) (m : ℕ) (registers : List T)
    → All (λ f. IsForm form value m (number f)) registers
    → HoldValues number form m registers (λ r. get_or (values_of number value m registers) r 0)
start_holds number form value m registers all = record {
  each = λ r d below. form_as (all r d below) (sym (get_or-map (λ f. value m (number f)) registers r d 0 below));
}

put_at : {T : Type 0} (number : T → ℕ) (form : ℕ → ℕ → ℕ) (m : ℕ) (registers : List T) (v : ℕ → ℕ) (dst w : ℕ) (f : T)
    → HoldValues number form m registers v → dst < length registers → Represents form m (number f) w
    → (r : ℕ) (d : T) → r < length registers → ((eqb r dst ≡ true) × (r ≡ dst)) ⊎ ((eqb r dst ≡ false) × (r ≢ dst))
    → Represents form m (number (get_or (set registers dst f) r d)) (cond (eqb r dst) w (v r))
put_at number form m registers v dst w f holds below stands r d in_range told =
    elim told [
      | inl p ↦ rw (p.0, p.1) (rw (get_or-set_same registers dst f d below) stands)
      | inr p ↦ rw p.0 (rw (get_or-set_other registers dst r f d p.1) (holds.each r d in_range))
    ]

-- after a write of register dst the others keep their values
put_holds : {T : Type 0} (number : T → ℕ) (form : ℕ → ℕ → ℕ) (m : ℕ) (registers : List T)
    (v : ℕ → ℕ) (dst w : ℕ) (f : T)
    → HoldValues number form m registers v → dst < length registers → Represents form m (number f) w
    → HoldValues number form m (set registers dst f) (λ r. cond (eqb r dst) w (v r))
put_holds number form m registers v dst w f holds below stands = record {
  each = λ r d in_range. put_at number form m registers v dst w f holds below stands r d
      (rw (length-set registers dst f) at in_range) (eqb_tells r dst);
}

-- so after a command whose form is written
pub after_found : {T : Type 0} (number : T → ℕ) (form : ℕ → ℕ → ℕ) (m : ℕ) (registers : List T) (v : ℕ → ℕ)
    (command : RingCommand ℕ) (f : T) (o : Option ℕ)
    → outcome m v command ≡ o → HoldValues number form m registers v → destination_of command < length registers
    → IsFormOf number form m o (Some f)
    → HoldValues number form m (set registers (destination_of command) f) (value_after m v (Some command))
after_found number form m registers v command f None e holds below found = absurd found
after_found number form m registers v command f (Some w) e holds below found =
    let put = put_holds number form m registers v (destination_of command) w f holds below found in
    record { each = λ r d in_range. rw e (put.each r d in_range) }

-- the values after the command are those that the table gives after it
pub after_command : {T : Type 0} (number : T → ℕ) (form : ℕ → ℕ → ℕ) (m : ℕ) (start : List ℕ)
    (commands : List (RingCommand ℕ)) (i : ℕ) (registers : List T) (command : RingCommand ℕ)
    → slice_get commands i ≡ Some command
    → HoldValues number form m registers (value_after m (value_at m start commands i) (Some command))
    → HoldValues number form m registers (value_at m start commands (i + 1))
after_command number form m start commands i registers command is holds =
    record { each = λ r d in_range. rw (add-one i) (rw is (holds.each r d in_range)) }

-- a command whose register numbers fit writes a register
pub destination_below : {T : Type 0} (number : T → ℕ) (count : ℕ) (command : RingCommand T)
    → IsFit count command → destination_of (whole number command) < count
destination_below number count (Load dst n) fit = fit
destination_below number count _ fit = fit.0

image_none : {A B : Type 0} (f : A → B) (o : Option A) → option_map f o ≡ None → o ≡ None
image_none f None e = refl
image_none f (Some x) e = cc

outcome_none : (m : ℕ) (v : ℕ → ℕ) (command : RingCommand ℕ) → outcome m v command ≡ None → LacksInverse m v command
outcome_none m v (Inv dst a) e = λ h. inverse_of-empty m (v a) h.0 e h.1
outcome_none m v (Div dst a b) e = λ h. inverse_of-empty m (v b) h.0 (image_none _ _ e) h.1
outcome_none m v _ e = cc

lacking_none : (m : ℕ) (v : ℕ → ℕ) (command : RingCommand ℕ) → LacksInverse m v command → outcome m v command ≡ None
lacking_none m v (Inv dst a) lacks = inverse_of-none m (v a) (λ x h. lacks (x, h))
lacking_none m v (Div dst a b) lacks =
    ap (option_map (λ y. (v a * y) % m)) (inverse_of-none m (v b) (λ x h. lacks (x, h)))
lacking_none m v _ lacks = absurd lacks

none_of_none : {T : Type 0} (number : T → ℕ) (form : ℕ → ℕ → ℕ) (m : ℕ) (o : Option ℕ)
    → IsFormOf number form m o None → o ≡ None
none_of_none number form m None h = refl
none_of_none number form m (Some w) h = absurd h

some_of_some : {T : Type 0} (number : T → ℕ) (form : ℕ → ℕ → ℕ) (m : ℕ) (o : Option ℕ) (f : T)
    → IsFormOf number form m o (Some f) → o ≡ None → ⊥
some_of_some number form m None f h e = h
some_of_some number form m (Some w) f h e = cc

-- where no form is found, the command lacks its inverse
pub lacks_here : {T : Type 0} (number : T → ℕ) (form : ℕ → ℕ → ℕ) (m : ℕ) (v : ℕ → ℕ) (command : RingCommand ℕ)
    → IsFormOf number form m (outcome m v command) None → LacksInverse m v command
lacks_here number form m v command found = outcome_none m v command (none_of_none number form m _ found)

-- where one is found, it doesn't
pub finds_here : {T : Type 0} (number : T → ℕ) (form : ℕ → ℕ → ℕ) (m : ℕ) (v : ℕ → ℕ) (command : RingCommand ℕ) (f : T)
    → IsFormOf number form m (outcome m v command) (Some f) → LacksInverse m v command → ⊥
finds_here number form m v command f found lacks =
    some_of_some number form m _ f found (lacking_none m v command lacks)

-- a command that lacks its inverse does so at its place in the list ..
pub command_lacks_inverse_at_place : (m : ℕ) (start : List ℕ) (commands : List (RingCommand ℕ)) (i : ℕ)
    (command : RingCommand ℕ)
    → slice_get commands i ≡ Some command → LacksInverse m (value_at m start commands i) command
    → LacksInverseAt m start commands i
command_lacks_inverse_at_place m start commands i command is lacks = rw is lacks

-- .. and only then
pub lacks_of : (m : ℕ) (start : List ℕ) (commands : List (RingCommand ℕ)) (i : ℕ) (command : RingCommand ℕ)
    → slice_get commands i ≡ Some command → LacksInverseAt m start commands i
    → LacksInverse m (value_at m start commands i) command
lacks_of m start commands i command is lacks = rw is at lacks

-- there is at most one stop
pub same_stop : {m : ℕ} {start : List ℕ} {commands : List (RingCommand ℕ)} {i j : ℕ} → IsStop m start commands i
    → IsStop m start commands j → i ≡ j
same_stop {m} {start} {commands} {i} {j} p q = search (arith, cases_lt)

-- a run that ends at its stop ends right
pub stops_at : {m : ℕ} {start : List ℕ} {commands : List (RingCommand ℕ)} {i : ℕ} → IsStop m start commands i → (at : ℕ)
    → (NoInverse i ≡ NoInverse at) ↔ IsStop m start commands at
stops_at {m} {start} {commands} {i} stop at = search (arith, same_stop)

pub not_done : {m : ℕ} {start : List ℕ} {commands : List (RingCommand ℕ)} {i : ℕ} → IsStop m start commands i
    → (NoInverse i ≡ Done) ↔ ((at : ℕ) → IsStop m start commands at → ⊥)
not_done {m} {start} {commands} {i} stop = (λ e. cc, λ h. absurd (h i stop))

some_within : {C : Type 0} (commands : List C) (at : ℕ) (P : C → Type 0) (o : Option C) → slice_get commands at ≡ o
    → IsSomeAnd o P → at < length commands
some_within commands at P None e h = absurd h
some_within commands at P (Some c) e h = slice_get_within commands at c e

-- where no command lacks its inverse, there is no stop
pub never_stops : {m : ℕ} {start : List ℕ} {commands : List (RingCommand ℕ)}
    → ((j : ℕ) → j < length commands → LacksInverseAt m start commands j → ⊥) → (at : ℕ)
    → IsStop m start commands at → ⊥
never_stops {m} {start} {commands} passed at stop = passed at (some_within commands at _ _ refl stop.lacks) stop.lacks

-- an entry of a list and of its image
pub read_map : {C D : Type 0} (f : C → D) (xs : List C) (i : ℕ) (x : C) → slice_get xs i ≡ Some x
    → slice_get (map f xs) i ≡ Some (f x)
read_map f xs i x e = slice_get-map f xs i ∙ ap (option_map f) e

pub true_not_false : {b : Bool} → IsTrue b → IsFalse b → ⊥
true_not_false holds fails = cc

-- no step
pub goes_nowhere : {R T C : Type 0} {ring : reducer.Ghosts R T} {number : T → ℕ} {command_of : C → RingCommand T}
    {r : R}
    {commands : List C} {registers : List T} {last : Last T} {at : ℕ}
    → MayGoOn ring number command_of r commands registers last at
    → GoesOn ring number command_of r commands registers registers last at at at true
goes_nowhere ready = record {
  count = refl;
  checked = ready.checked;
  holds = ready.holds;
  reached = λ start reached. reached;
  lacks = λ fails. absurd (true_not_false refl fails);
  moved = λ holds. refl;
}

-- a step, and then another
pub goes_both : {R T C : Type 0} {ring : reducer.Ghosts R T} {number : T → ℕ} {command_of : C → RingCommand T} {r : R}
    {commands : List C} {before between after : List T} {kept last : Last T} {from mid to stop end : ℕ}
    {went done : Bool}
    → GoesOn ring number command_of r commands before between kept from mid stop went
    → GoesOn ring number command_of r commands between after last mid to end done
    → GoesOn ring number command_of r commands before after last from to end done
goes_both first second = record {
  count = second.count ∙ first.count;
  checked = second.checked;
  holds = second.holds;
  reached = λ start reached. second.reached start (first.reached start reached);
  lacks = λ fails start reached. second.lacks fails start (first.reached start reached);
  moved = second.moved;
}

-- a step with another end, or another word of whether it was done
pub ends_at : {R T C : Type 0} {ring : reducer.Ghosts R T} {number : T → ℕ} {command_of : C → RingCommand T} {r : R}
    {commands : List C} {before after : List T} {last : Last T} {from to end other : ℕ} {done told : Bool}
    → GoesOn ring number command_of r commands before after last from to end done → (IsFalse told → IsFalse done)
    → (IsTrue told → to ≡ other) → GoesOn ring number command_of r commands before after last from to other told
ends_at step fails holds = record {
  count = step.count;
  checked = step.checked;
  holds = step.holds;
  reached = step.reached;
  lacks = λ same. step.lacks (fails same);
  moved = holds;
}

-- after a step the next may begin
pub next_ready : {R T C : Type 0} {ring : reducer.Ghosts R T} {number : T → ℕ} {command_of : C → RingCommand T} {r : R}
    {commands : List C} {before after : List T} {kept last : Last T} {from to end stop next : ℕ} {done : Bool}
    → MayGoOn ring number command_of r commands before kept stop
    → GoesOn ring number command_of r commands before after last from to end done → next ≤ length commands
    → MayGoOn ring number command_of r commands after last next
next_ready ready step within = record {
  checked = step.checked;
  fit = rw step.count ready.fit;
  holds = step.holds;
  within = within;
}
