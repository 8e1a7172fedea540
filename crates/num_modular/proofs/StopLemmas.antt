-- Where a run stops, by the inverses that its commands need.
use Rattle.std.proofs.Common.{◌≡◌, ℕ, suc, zero, ◌<◌, List, map, refl, sym, subst, arith}
use Rattle.std.proofs.Common.{Option, Some, None, option_map, All, IsSomeAnd, inl, inr}
use Rattle.std.specs.List.{slice_get}
use Rattle.std.proofs.lemmas.Bool.{cases_lt}
use Rattle.std.proofs.lemmas.Option.{slice_get-map, slice_get_within, get_or_from_slice_get}
use Rattle.modular_word.specs.Inverses.{HasInverse, inverse_of}
use Rattle.modular_word.proofs.InverseLemmas.{inverse_of-named, inverse_of-empty}
use Rattle.modular_ring.specs.declared.ring.RingCommand.{RingCommand}
use Rattle.modular_ring.specs.declared.ring.RingCommand.TheVariants.{Inv, Div}
use Rattle.modular_ring.specs.Ring.{whole, value_at, inverted_by, LacksInverse, LacksInverseAt, IsStop}
use Rattle.num_modular.specs.Stops.{NeedsInverse}

-- a command that lacks its inverse needs one of a register that has none
lacking_command_inverts_nonunit : {T : Type 0} (number : T → ℕ) (m : ℕ) (v : ℕ → ℕ) (command : RingCommand T)
    → LacksInverse m v (whole number command) → (r : ℕ) × (inverted_by command ≡ Some r) × (HasInverse m (v r) → ⊥)
lacking_command_inverts_nonunit number m v (Inv dst a) h = (a, refl, h)
lacking_command_inverts_nonunit number m v (Div dst a b) h = (b, refl, h)
lacking_command_inverts_nonunit number m v _ h = absurd h

inverting_nonunit_lacks_inverse : {T : Type 0} (number : T → ℕ) (m : ℕ) (v : ℕ → ℕ) (command : RingCommand T) (r : ℕ)
    → inverted_by command ≡ Some r → (HasInverse m (v r) → ⊥) → LacksInverse m v (whole number command)
inverting_nonunit_lacks_inverse number m v (Inv dst a) r e none = let same : a ≡ r = cc in
    subst (λ q. HasInverse m (v q) → ⊥) (sym same) none
inverting_nonunit_lacks_inverse number m v (Div dst a b) r e none = let same : b ≡ r = cc in
    subst (λ q. HasInverse m (v q) → ⊥) (sym same) none
inverting_nonunit_lacks_inverse number m v _ r e none = absurd (cc)

-- the same of a place of a list
lacking_read : {T : Type 0} (number : T → ℕ) (m : ℕ) (v : ℕ → ℕ) (read : Option (RingCommand T))
    → IsSomeAnd (option_map (whole number) read) (LacksInverse m v)
    → (r : ℕ) × IsSomeAnd read (λ command. inverted_by command ≡ Some r) × (HasInverse m (v r) → ⊥)
lacking_read number m v None h = absurd h
lacking_read number m v (Some command) h = lacking_command_inverts_nonunit number m v command h

lacks_read : {T : Type 0} (number : T → ℕ) (m : ℕ) (v : ℕ → ℕ) (read : Option (RingCommand T)) (r : ℕ)
    → IsSomeAnd read (λ command. inverted_by command ≡ Some r) → (HasInverse m (v r) → ⊥)
    → IsSomeAnd (option_map (whole number) read) (LacksInverse m v)
lacks_read number m v None r e none = absurd e
lacks_read number m v (Some command) r e none = inverting_nonunit_lacks_inverse number m v command r e none

lacking_at : {T : Type 0} (number : T → ℕ) (m : ℕ) (start : List ℕ) (commands : List (RingCommand T)) (i : ℕ)
    → LacksInverseAt m start (map (whole number) commands) i
    → (r : ℕ) × NeedsInverse commands i r × (HasInverse m (value_at m start (map (whole number) commands) i r) → ⊥)
lacking_at number m start commands i h =
    lacking_read number m _ (slice_get commands i) (rw (slice_get-map (whole number) commands i) at h)

command_lacks_needed_inverse : {T : Type 0} (number : T → ℕ) (m : ℕ) (start : List ℕ) (commands : List (RingCommand T))
    (i r : ℕ)
    → NeedsInverse commands i r → (HasInverse m (value_at m start (map (whole number) commands) i r) → ⊥)
    → LacksInverseAt m start (map (whole number) commands) i
command_lacks_needed_inverse number m start commands i r needs none =
    rw (slice_get-map (whole number) commands i) (lacks_read number m _ (slice_get commands i) r needs none)

needs_none : {T : Type 0} (commands : List (RingCommand T)) (i r : ℕ) (read : Option (RingCommand T))
    → slice_get commands i ≡ read
    → All (λ command. inverted_by command ≡ None) commands
    → IsSomeAnd read (λ command. inverted_by command ≡ Some r) → ⊥
needs_none commands i r None e all needs = needs
needs_none commands i r (Some command) e all needs =
    let here : inverted_by command ≡ None = subst (λ c. inverted_by c ≡ None)
    (get_or_from_slice_get commands i command command e) (all i command (slice_get_within commands i command e)) in
    absurd (cc)

-- a list that needs no inverse has no stop
pub no_stop : {T : Type 0} (number : T → ℕ) (m : ℕ) (start : List ℕ) (commands : List (RingCommand T)) (at : ℕ)
    → All (λ command. inverted_by command ≡ None) commands → IsStop m start (map (whole number) commands) at → ⊥
no_stop number m start commands at all stop =
    let found = lacking_at number m start commands at stop.lacks in
    needs_none commands at found.0 (slice_get commands at) refl all found.1

-- a missing inverse with none before it is the stop
pub first_stop : {T : Type 0} (number : T → ℕ) (m : ℕ) (start : List ℕ) (commands : List (RingCommand T)) (at r : ℕ)
    → NeedsInverse commands at r → (HasInverse m (value_at m start (map (whole number) commands) at r) → ⊥)
    → ((i q : ℕ) → i < at → NeedsInverse commands i q
    → HasInverse m (value_at m start (map (whole number) commands) i q))
    → IsStop m start (map (whole number) commands) at
first_stop number m start commands at r needs none before = record {
  lacks = command_lacks_needed_inverse number m start commands at r needs none;
  first = λ i below h. let found = lacking_at number m start commands i h in found.2 (before i found.0 below found.1);
}

none_lacks : {m : ℕ} {start : List ℕ} {commands : List (RingCommand ℕ)} → ((at : ℕ) → IsStop m start commands at → ⊥)
    → (n i : ℕ) → i < n → LacksInverseAt m start commands i → ⊥
none_lacks never zero i below h = omega arith
none_lacks never (suc n) i below h =
    elim (cases_lt i n) [
      | inl less ↦ none_lacks never n i less h
      | inr same ↦ never i (record { lacks = h; first = λ j less k. none_lacks never n j (omega arith) k })
    ]

inverse_or_none : (m a : ℕ) (found : Option ℕ) → inverse_of m a ≡ found → ((HasInverse m a → ⊥) → ⊥) → HasInverse m a
inverse_or_none m a None e h = absurd (h (λ p. inverse_of-empty m a p.0 e p.1))
inverse_or_none m a (Some x) e h = (x, inverse_of-named m a x e)

-- where there is no stop, each inverse was there
pub each_inverse : {T : Type 0} (number : T → ℕ) (m : ℕ) (start : List ℕ) (commands : List (RingCommand T))
    → ((at : ℕ) → IsStop m start (map (whole number) commands) at → ⊥)
    → (i r : ℕ) → NeedsInverse commands i r → HasInverse m (value_at m start (map (whole number) commands) i r)
each_inverse number m start commands never i r needs =
    inverse_or_none m _ _ refl
    (λ none. none_lacks never (suc i) i (omega arith) (command_lacks_needed_inverse number m start commands i r needs
    none))
