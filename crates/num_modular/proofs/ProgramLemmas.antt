-- Lemmas on the words of the program, and on what it prints.
use Rattle.std.proofs.Common.{◌≡◌, ◌↔◌, ℕ, zero, suc, replicate, append_assoc, ◌%◌, ◌+◌, ◌<◌, ◌≤◌}
use Rattle.std.proofs.Common.{List, [], ◌∷◌, ◌++◌, Option, Some, None, Result, Ok, Err, IfOk, length}
use Rattle.std.proofs.Common.{map, take, get_or, All, arith, rules, refl, sym, ◌∙◌, ap, subst, Bor}
use Rattle.std.proofs.lemmas.List.{take_more}
use Rattle.std.specs.Fmt.{decimal}
use Rattle.std.proofs.Math.Nat.{mod-eq_of_lt}
use Rattle.modular_reduced.specs.Forms.{Represents, IsCanonical}
use Rattle.modular_ring.specs.declared.ring.RunEnd.{RunEnd}
use Rattle.modular_ring.specs.declared.ring.RunEnd.TheVariants.{Done, NoInverse}
use Rattle.std.specs.Io.KnownBytes.{Appends}
use Rattle.modular_ring.specs.declared.ring.RingCommand.{RingCommand}
use Rattle.num_modular.specs.declared.modrun.ReducerName.{ReducerName}
use Rattle.modular_ring.specs.Ring.{IsFit, IsStop, whole, value_at, carried_out}
use Rattle.num_modular.specs.Words.{IsCommandWord, IsCommandParts, parts}
use Rattle.num_modular.specs.Program.{AreCommands, IsHeading, Ask, IsAnswer, IsEnd}
use Rattle.num_modular.specs.Program.{numbers_to, line_of, printed, zeros, usage}

fit_parts : (ps : List (List ℕ)) (command : RingCommand ℕ) → IsCommandParts ps command → IsFit 8 command
fit_parts [] command h = absurd h
fit_parts (name ∷ numbers) command h = h.fit

-- commands that were read fit eight registers
pub commands_fit : (words : List (Bor (List ℕ))) (commands : List (RingCommand ℕ))
    → AreCommands words commands → All (IsFit 8) commands
commands_fit [] [] read k d below = absurd (omega arith)
commands_fit [] (c ∷ cs) read k d below = absurd read
commands_fit (w ∷ ws) [] read k d below = absurd read
commands_fit (w ∷ ws) (c ∷ cs) read zero d below = fit_parts (parts w.now) c read.0
commands_fit (w ∷ ws) (c ∷ cs) read (suc k) d below = commands_fit ws cs read.1 k d (omega arith)

both_read : (words more : List (Bor (List ℕ))) (commands others : List (RingCommand ℕ)) → AreCommands words commands
    → AreCommands more others → AreCommands (words ++ more) (commands ++ others)
both_read [] more [] others read h = h
both_read [] more (c ∷ cs) others read h = absurd read
both_read (w ∷ ws) more [] others read h = absurd read
both_read (w ∷ ws) more (c ∷ cs) others read h = (read.0, both_read ws more cs others read.1 h)

-- one word more
pub more_read : (words : List (Bor (List ℕ))) (i : ℕ) (d : Bor (List ℕ))
    (commands : List (RingCommand ℕ)) (command : RingCommand ℕ)
    → i < length words → AreCommands (take i words) commands → IsCommandWord (get_or words i d).now command
    → AreCommands (take (i + 1) words) (commands ++ (command ∷ []))
more_read words i d commands command below read this =
    subst (λ ws. AreCommands ws (commands ++ (command ∷ []))) (sym (take_more words i d below))
    (both_read (take i words) (get_or words i d ∷ []) commands (command ∷ []) read (this, tt))

-- no commands are read of words of which one isn't readable
pub unreadable_at : (words : List (Bor (List ℕ))) (i : ℕ) (d : Bor (List ℕ)) → i < length words
    → ((command : RingCommand ℕ) → IsCommandWord (get_or words i d).now command → ⊥) → (commands : List (RingCommand ℕ))
    → AreCommands words commands → ⊥
unreadable_at [] i d below none commands read = omega arith
unreadable_at (w ∷ ws) i d below none [] read = read
unreadable_at (w ∷ ws) zero d below none (c ∷ cs) read = none c read.0
unreadable_at (w ∷ ws) (suc i) d below none (c ∷ cs) read = unreadable_at ws i d (omega arith) none cs read.1

-- a command over words of which each is its own number is the command itself
pub whole_same : (command : RingCommand ℕ) → whole (λ n. n) command ≡ command
whole_same command = grind arith

-- commands over words of 64 bits are commands over whole numbers
pub wholes_same : (commands : List (RingCommand ℕ)) → map (whole (λ n. n)) commands ≡ commands
wholes_same [] = refl
wholes_same (c ∷ cs) = rw (whole_same c, wholes_same cs) refl

numbers_same : (v w : ℕ → ℕ) (i : ℕ) → ((r : ℕ) → r ≤ i → v r ≡ w r) → numbers_to v i ≡ numbers_to w i
numbers_same v w zero h = ap decimal (h 0 (omega arith))
numbers_same v w (suc i) h = search (arith, numbers_same v w i (λ r below. h r (omega arith)))

-- what a run that is told of equal lists ends with and prints
pub end_of_run : (m : ℕ) (start : List ℕ) (wholes commands : List (RingCommand ℕ)) (end : RunEnd)
    → start ≡ zeros → wholes ≡ commands
    → ((at : ℕ) → (end ≡ NoInverse at) ↔ IsStop m start wholes at)
    → ((end ≡ Done) ↔ ((at : ℕ) → IsStop m start wholes at → ⊥)) → IsEnd m commands end
end_of_run m start wholes commands Done e1 e2 stops done = search arith
end_of_run m start wholes commands (NoInverse at) e1 e2 stops done =
    subst (λ cs. IsStop m zeros cs at) e2 (subst (λ s. IsStop m s wholes at) e1 ((stops at).0 refl))

pub line_of_run : (m : ℕ) (start : List ℕ) (wholes commands : List (RingCommand ℕ)) (end : RunEnd) (v : ℕ → ℕ)
    → start ≡ zeros → wholes ≡ commands
    → ((r : ℕ) → r < 8 → v r ≡ value_at m start wholes (carried_out end wholes) r) → line_of v ≡ printed m commands end
line_of_run m start wholes commands end v e1 e2 h = search (arith, numbers_same)

-- the form of 0 has the value 0
pub value_zero : (form value : ℕ → ℕ → ℕ) (width m f : ℕ) → IsCanonical form value width m
    → Represents form m f (0 % m) → value m f ≡ 0
value_zero form value width m f canonical h = canonical.one_value f (0 % m) h ∙ mod-eq_of_lt canonical.positive

pub all_zeros : (x : ℕ) → x ≡ 0 → replicate 8 x ≡ zeros
all_zeros x e = ap (λ n. replicate 8 n) e

pub appends_more : (a b c : Option (List ℕ)) (xs ys : List ℕ) → Appends a b xs → Appends b c ys → Appends a c (xs ++ ys)
appends_more None b c xs ys h k = tt
appends_more (Some p) None c xs ys h k = absurd h
appends_more (Some p) (Some q) None xs ys h k = absurd k
appends_more (Some p) (Some q) (Some r) xs ys h k = k ∙ (ap (λ ts. ts ++ ys) h ∙ append_assoc p xs ys)

pub appends_nothing : (known : Option (List ℕ)) → Appends known known []
appends_nothing None = tt
appends_nothing (Some xs) = search rules

pub if_ok : {T E : Type 0} (r : Result T E) (P Q : T → Type 0) → IfOk r P → ((x : T) → P x → Q x) → IfOk r Q
if_ok (Ok x) P Q h f = f x h
if_ok (Err e) P Q h f = tt

same_heading : (words : List (Bor (List ℕ))) (x y : ReducerName) (m n : ℕ) (xs ys : List (Bor (List ℕ)))
    → IsHeading words x m xs → IsHeading words y n ys → (m ≡ n) × (xs ≡ ys)
same_heading words x y m n xs ys h k = search arith

-- what is proved for the words of commands holds for all words
pub answer_all : (words : List (Bor (List ℕ))) (reducer : ReducerName) (m modulus : ℕ) (rest : List (Bor (List ℕ)))
    (untouched : Type 0) (Printed Told : List ℕ → Type 0)
    → IsHeading words reducer m rest → modulus ≡ m
    → (status : ℕ) → IsAnswer (λ n commands. (n ≡ modulus) × AreCommands rest commands) untouched Printed Told status
    → IsAnswer (Ask words) untouched Printed Told status
answer_all words reducer m modulus rest untouched Printed Told h e status answer = search (arith, same_heading)

-- what the program does for words that aren't readable
pub refusal_answers_unreadable_words : (words : List (Bor (List ℕ))) (untouched : Type 0) (Printed Told : List ℕ
    → Type 0)
    → ((reducer : ReducerName) (m : ℕ) (rest : List (Bor (List ℕ))) → IsHeading words reducer m rest → ⊥)
    → untouched → (status : ℕ) → (status ≡ 2) × Told usage → IsAnswer (Ask words) untouched Printed Told status
refusal_answers_unreadable_words words untouched Printed Told none same status h = record {
  ran = λ below. absurd (omega (arith, h.0));
  unreadable = λ two. ((λ m commands ask. none ask.reducer m ask.rest ask.heading), same, h.1);
  memory = λ three. absurd (omega (arith, h.0));
  range = omega (arith, h.0);
}
