-- Runs of one list of commands modulo each modulus of a system, up to the first command whose inverse doesn't exist
-- modulo one of them.
use Rattle.std.proofs.Common.{◌≡◌, ℕ, zero, suc, ◌+◌, ◌-◌, ◌*◌, ◌%◌, ◌<◌, ◌≤◌, ◌↔◌, List, [], ◌∷◌, length, map, take}
use Rattle.std.proofs.Common.{drop, All, get_or, sym, ap, subst, ◌∙◌, refl, arith, below_more, inl, inr}
use Rattle.std.specs.List.{slice_get}
use Rattle.std.proofs.Math.Path.{fun_ext}
use Rattle.std.proofs.Math.Nat.{mul-le-mul_left}
use Rattle.std.proofs.lemmas.Nat.{mod-mul-add}
use Rattle.std.proofs.lemmas.Bool.{cases_lt, cases_eq}
use Rattle.std.proofs.lemmas.List.{get_or-take, get_or-drop, length-map}
use Rattle.std.proofs.lemmas.Grind.{get_or_default_zero}
use Rattle.std.proofs.lemmas.Option.{slice_get_past}
use Rattle.num_modular.specs.declared.ring.RingCommand.{RingCommand}
use Rattle.num_modular.specs.declared.ring.RunEnd.{RunEnd}
use Rattle.num_modular.specs.declared.ring.RunEnd.TheVariants.{Done, NoInverse}
use Rattle.num_modular.specs.Ring.{whole, value_after, value_at, LacksInverseAt, IsStop, carried_out}
use Rattle.residue_numbers.specs.Registers.{register, IsCarriedOut, IsColumnRun, value_modulo}
use Rattle.residue_numbers.proofs.Runs.{NoneLacks, start_mod}

-- a command over whole numbers
abbrev pub over_whole : {C : Type 0} → (C → RingCommand ℕ) → C → RingCommand ℕ
over_whole command_of c = whole (λ n. n) (command_of c)

-- where not all commands are carried out, the next one is the stop
stopped_at : {done at : ℕ} → NoInverse done ≡ NoInverse at → done ≡ at
stopped_at e = cc

stop_exactly : (m : ℕ) (start : List ℕ) (commands : List (RingCommand ℕ)) (done : ℕ) → NoneLacks m start commands done
    → LacksInverseAt m start commands done → (at : ℕ) → (NoInverse done ≡ NoInverse at) ↔ IsStop m start commands at
stop_exactly m start commands done before next at = search (arith, stopped_at, cases_lt)

-- a command that lacks its inverse is one of the list
lacks_within : (m : ℕ) (start : List ℕ) (commands : List (RingCommand ℕ)) (at : ℕ) → LacksInverseAt m start commands at
    → at < length commands
lacks_within m start commands at lacks = search (arith, cases_lt, slice_get_past)

-- lists with the same first commands: the values there, and the inverses that are missing
read_prefix : {X : Type 0} (xs : List X) (k i : ℕ) → i < k → slice_get (take k xs) i ≡ slice_get xs i
read_prefix xs zero i h = absurd (omega (arith, h))
read_prefix [] (suc k) i h = refl
read_prefix (x ∷ xs) (suc k) zero h = refl
read_prefix (x ∷ xs) (suc k) (suc i) h = read_prefix xs k i (omega (arith, h))

pub value_prefix : (m : ℕ) (start : List ℕ) (commands : List (RingCommand ℕ)) (k i : ℕ) → i ≤ k
    → (r : ℕ) → value_at m start (take k commands) i r ≡ value_at m start commands i r
value_prefix m start commands k zero h r = refl
value_prefix m start commands k (suc i) h r =
    ap (λ v. value_after m v (slice_get (take k commands) i) r)
    (fun_ext (value_prefix m start commands k i (omega (arith, h))))
    ∙ ap (λ o. value_after m (value_at m start commands i) o r) (read_prefix commands k i (omega (arith, h)))

lacks_prefix : (m : ℕ) (start : List ℕ) (commands : List (RingCommand ℕ)) (k i : ℕ) → i < k
    → LacksInverseAt m start (take k commands) i ↔ LacksInverseAt m start commands i
lacks_prefix m start commands k i h = search (arith, value_prefix, read_prefix)

pub carried_prefix : (m : ℕ) (start : List ℕ) (commands : List (RingCommand ℕ)) (k done : ℕ) → done ≤ k
    → IsCarriedOut m start (take k commands) k done → IsCarriedOut m start commands k done
carried_prefix m start commands k done most carried = record {
  before = λ at h lacks. carried.before at h ((lacks_prefix m start commands k at (omega (arith, h, most))).1 lacks);
  next = λ h. (lacks_prefix m start commands k done h).0 (carried.next h);
}

-- where a run has no stop, no command lacks its inverse
none_lacks_unstopped : (m : ℕ) (start : List ℕ) (commands : List (RingCommand ℕ))
    → ((at : ℕ) → IsStop m start commands at → ⊥) → (n : ℕ) → NoneLacks m start commands n
none_lacks_unstopped m start commands never zero at h lacks = omega (arith, h)
none_lacks_unstopped m start commands never (suc n) at h lacks =
    never at record { lacks = lacks; first = λ j l. none_lacks_unstopped m start commands never n j (omega arith) }

-- places of a list of registers, of n words each
pub place_within : (count n r i : ℕ) → r < count → i < n → r * n + i < count * n
place_within count n r i h k = let f = mul-le-mul_left n h in omega (arith, f, k)

pub other_place : (n r q i j : ℕ) → i < n → j < n → r * n + i ≡ q * n + j → i ≡ j
other_place n r q i j h k e = sym (mod-mul-add r n i h) ∙ ap (λ a. a % n) e ∙ mod-mul-add q n j k

-- a word of a register
pub register_word : (n : ℕ) (words : List ℕ) (r i : ℕ) → i < n
    → get_or (register n words r) i 0 ≡ get_or words (r * n + i) 0
register_word n words r i h =
    get_or-take (r * n + n - r * n) (drop (r * n) words) i 0 (omega (arith, h)) ∙ get_or-drop (r * n) words i 0

-- a list all of whose entries are so
pub all_of_each : (P : ℕ → Type 0) (xs : List ℕ) → ((i : ℕ) → i < length xs → P (get_or xs i 0)) → All P xs
all_of_each P xs each i d h = subst P (sym (get_or_default_zero xs i d h)) (each i h)

-- the end of a run tells what it carried out
pub carried_by_end : (m : ℕ) (start : List ℕ) (commands : List (RingCommand ℕ)) (end : RunEnd) (count done : ℕ)
    → length commands ≡ count → ((at : ℕ) → (end ≡ NoInverse at) ↔ IsStop m start commands at)
    → ((end ≡ Done) ↔ ((at : ℕ) → IsStop m start commands at → ⊥)) → (end ≡ Done → done ≡ count)
    → ((at : ℕ) → end ≡ NoInverse at → done ≡ at)
    → IsCarriedOut m start commands count done × (done ≤ count) × (carried_out end commands ≡ done)
carried_by_end m start commands Done count done long stops never all stopped =
    let e = all refl in (
      record { before = none_lacks_unstopped m start commands (never.0 refl) done; next = λ h. absurd (omega arith) },
      omega (arith, e),
      long ∙ sym e,
    )
carried_by_end m start commands (NoInverse at) count done long stops never all stopped =
    let stop = (stops at).0 refl in let within = lacks_within m start commands at stop.lacks in grind arith

-- a column changes the words at its place alone
abbrev pub IsKept : List ℕ → List ℕ → List ℕ → List ℕ → ℕ → Type 0
IsKept moduli start before after place = (r i : ℕ) → r < length start → i < length moduli → (i ≡ place → ⊥)
    → get_or after (r * length moduli + i) 0 ≡ get_or before (r * length moduli + i) 0

-- as many commands as can be carried out modulo each of the moduli before a place; the registers hold the values there
-- from the place `again` on
pub record AreRunBefore (moduli start : List ℕ) (commands : List (RingCommand ℕ)) (registers : List ℕ)
    (done again place : ℕ) : Type 0 where
  pub each : (i : ℕ) → i < place → NoneLacks (get_or moduli i 0) (start_mod (get_or moduli i 0) start) commands done
  pub next : done < length commands → (i : ℕ) × (i < place)
      × LacksInverseAt (get_or moduli i 0) (start_mod (get_or moduli i 0) start) commands done
  pub values : (r i : ℕ) → r < length start → again ≤ i → i < place
      → get_or registers (r * length moduli + i) 0 ≡ value_modulo moduli i start commands done r

pub more_run : (moduli start : List ℕ) (commands : List (RingCommand ℕ)) (before after : List ℕ)
    (count done again next place : ℕ) → AreRunBefore moduli start commands before count again place
    → IsColumnRun moduli place start commands count after done → IsKept moduli start before after place → done ≤ count
    → place < length moduli → (done < count → next ≡ place) → (count ≤ done → next ≡ again)
    → AreRunBefore moduli start commands after done next (place + 1)
more_run moduli start commands before after count done again next place was here kept most inside less all =
    record {
      each = below_more (λ i. NoneLacks (get_or moduli i 0) (start_mod (get_or moduli i 0) start) commands done) place
          (λ i h at l. was.each i h at (omega (arith, l, most))) here.carried.before;
      next = λ h. elim (cases_lt done count) [
        | inl fewer ↦ (place, omega arith, here.carried.next fewer)
        | inr same ↦
            let e : count ≡ done = omega (arith, same, most) in
            let (i, l, lacks) = was.next (omega (arith, h, e)) in
            (i, omega (arith, l), simp e at lacks)
      ];
      values = λ r i h from to. grind (arith, cases_eq, cases_lt);
    }

-- the registers hold the values at all places but those from a place to before `again`
abbrev pub HoldBut : List ℕ → List ℕ → List (RingCommand ℕ) → List ℕ → ℕ → ℕ → ℕ → Type 0
HoldBut moduli start commands registers done again place = (r i : ℕ) → r < length start → i < length moduli
    → (place ≤ i → again ≤ i) → get_or registers (r * length moduli + i) 0 ≡ value_modulo moduli i start commands done r

pub more_again : (moduli start : List ℕ) (commands : List (RingCommand ℕ)) (before after : List ℕ)
    (count done again place : ℕ) → HoldBut moduli start commands before count again place
    → IsColumnRun moduli place start commands count after done → IsKept moduli start before after place → done ≤ count
    → NoneLacks (get_or moduli place 0) (start_mod (get_or moduli place 0) start) commands count
    → HoldBut moduli start commands after count again (place + 1)
more_again moduli start commands before after count done again place was here kept most none r i h within side =
    grind (arith, cases_eq)

-- where a run ends that carries so many commands out
pub record IsEnd (m : ℕ) (start : List ℕ) (commands : List (RingCommand ℕ)) (end : RunEnd) (done : ℕ) : Type 0 where
  pub stops : (at : ℕ) → (end ≡ NoInverse at) ↔ IsStop m start commands at
  pub never : (end ≡ Done) ↔ ((at : ℕ) → IsStop m start commands at → ⊥)
  pub same : carried_out end commands ≡ done

pub IsEnd-from_carried : {C : Type 0} (f : C → RingCommand ℕ) (commands : List C) (m : ℕ) (start : List ℕ)
    (end : RunEnd) (done : ℕ) → IsCarriedOut m start (map f commands) (length (map f commands)) done
    → done ≤ length commands → (done ≡ length commands → end ≡ Done)
    → (done < length commands → end ≡ NoInverse done) → IsEnd m start (map f commands) end done
IsEnd-from_carried f commands m start end done is most all part =
    elim (cases_lt done (length commands)) [
      | inl less ↦ grind (arith, length-map, stop_exactly)
      | inr other ↦
          let e : done ≡ length commands = omega (arith, most, other) in
          let none : (at : ℕ) → IsStop m start (map f commands) at → ⊥ =
          λ at stop. let l = lacks_within m start (map f commands) at stop.lacks in
          is.before at (omega (arith, l, length-map commands f, e)) stop.lacks in
          grind (arith, length-map, all e)
    ]
