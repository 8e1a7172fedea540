-- Check digits by states: which changes of one digit and which exchanges of neighbours end in another state.
use Rattle.std.proofs.Common.{◌≡◌, ◌≢◌, ℕ, zero, suc, ◌+◌, ◌<◌, ◌≤◌}
use Rattle.std.proofs.Common.{List, [], ◌∷◌, ◌++◌, length, ap, ◌∙◌, refl, arith, ⊎_elim}
use Rattle.std.proofs.Common.{add-one, length-append, All}
use Rattle.std.proofs.Math.ListN.{get_or-append}
use Rattle.std.proofs.lemmas.List.Elements.{All-append, All-cons, All-nil}
use Rattle.std.proofs.lemmas.Bool.{cases_lt}
use Rattle.check_digits.specs.States.{state_after}

-- digits lead from each state to states that tell them apart, in both orders of two neighbours
pub record Distinguishes (step : ℕ → ℕ → ℕ → ℕ) : Type 0 where
  pub closed : (i c d : ℕ) → c ≤ 9 → d ≤ 9 → step i c d ≤ 9
  pub states : (i c e d : ℕ) → c ≤ 9 → e ≤ 9 → d ≤ 9 → step i c d ≡ step i e d → c ≡ e
  pub digits : (i c d e : ℕ) → c ≤ 9 → d ≤ 9 → e ≤ 9 → step i c d ≡ step i c e → d ≡ e
  pub orders : (i c d e : ℕ) → c ≤ 9 → d ≤ 9 → e ≤ 9
      → step (suc i) (step i c d) e ≡ step (suc i) (step i c e) d → d ≡ e

pub state_first : (step : ℕ → ℕ → ℕ → ℕ) (start : ℕ) (f : ℕ → ℕ) → state_after step start f 0 ≡ start
unfolding state_after
state_first step start f = refl

pub state_next : (step : ℕ → ℕ → ℕ → ℕ) (start : ℕ) (f : ℕ → ℕ) (n : ℕ)
    → state_after step start f (suc n) ≡ step n (state_after step start f n) (f n)
unfolding state_after
state_next step start f n = refl

-- equal digits
pub state_same : (step : ℕ → ℕ → ℕ → ℕ) (start : ℕ) (f g : ℕ → ℕ) (n : ℕ) → ((i : ℕ) → i < n → f i ≡ g i)
    → state_after step start f n ≡ state_after step start g n
unfolding state_after
state_same step start f g zero same = refl
state_same step start f g (suc n) same = search (arith, state_same step start f g n (λ i l. same i (omega arith)))

pub state_most : (step : ℕ → ℕ → ℕ → ℕ) (start : ℕ) (f : ℕ → ℕ) (n : ℕ)
    → ((i c d : ℕ) → c ≤ 9 → d ≤ 9 → step i c d ≤ 9)
    → start ≤ 9 → ((i : ℕ) → i < n → f i ≤ 9) → state_after step start f n ≤ 9
unfolding state_after
state_most step start f zero closed most digits = most
state_most step start f (suc n) closed most digits =
    closed n _ (f n) (state_most step start f n closed most (λ i l. digits i (omega arith))) (digits n (omega arith))

-- states that differ stay apart
states_equal_at : (step : ℕ → ℕ → ℕ → ℕ) (start : ℕ) (f g : ℕ → ℕ) (k n : ℕ) → Distinguishes step → start ≤ 9 → k ≤ n
    → ((i : ℕ) → i < n → f i ≤ 9) → ((i : ℕ) → i < n → g i ≤ 9) → ((i : ℕ) → k ≤ i → i < n → f i ≡ g i)
    → state_after step start f n ≡ state_after step start g n → state_after step start f k ≡ state_after step start g k
states_equal_at step start f g k zero told most l f_most g_most same e = search arith
states_equal_at step start f g k (suc n) told most l f_most g_most same e =
    ⊎_elim
    (λ (b : k < suc n).
    let f_state = state_most step start f n told.closed most (λ i l. f_most i (omega arith)) in
    let g_state = state_most step start g n told.closed most (λ i l. g_most i (omega arith)) in
    let step_same : step n (state_after step start f n) (f n) ≡ step n (state_after step start g n) (f n) =
    search (arith, state_next) in
    states_equal_at step start f g k n told most (omega arith) (λ i l. f_most i (omega arith))
    (λ i l. g_most i (omega arith)) (λ i m l. same i m (omega arith))
    (told.states n _ _ (f n) f_state g_state (f_most n (omega arith)) step_same))
    (λ (b : suc n ≤ k). search arith)
    (cases_lt k (suc n))

-- a changed digit
pub changed_apart : (step : ℕ → ℕ → ℕ → ℕ) (start : ℕ) (f g : ℕ → ℕ) (p n : ℕ) → Distinguishes step → start ≤ 9
    → p < n → ((i : ℕ) → i < n → f i ≤ 9) → ((i : ℕ) → i < n → g i ≤ 9) → ((i : ℕ) → i < n → i ≢ p → f i ≡ g i)
    → state_after step start f n ≡ state_after step start g n → f p ≡ g p
changed_apart step start f g p n told most l f_most g_most same e =
    let at = states_equal_at step start f g (suc p) n told most (omega arith) f_most g_most
    (λ i m k. same i k (omega arith)) e in
    search (arith, state_same, state_most, state_next)

-- two neighbours exchanged
pub exchanged_apart : (step : ℕ → ℕ → ℕ → ℕ) (start : ℕ) (f g : ℕ → ℕ) (p n : ℕ) → Distinguishes step → start ≤ 9
    → suc p < n → ((i : ℕ) → i < n → f i ≤ 9) → ((i : ℕ) → i < n → g i ≤ 9)
    → ((i : ℕ) → i < n → i ≢ p → i ≢ suc p → f i ≡ g i) → g p ≡ f (suc p) → g (suc p) ≡ f p
    → state_after step start f n ≡ state_after step start g n → f p ≡ f (suc p)
exchanged_apart step start f g p n told most l f_most g_most same first second e =
    let at = states_equal_at step start f g (suc (suc p)) n told most (omega arith) f_most g_most
    (λ i m k. same i k (omega arith) (omega arith)) e in
    search (arith, state_same, state_next, state_most)

-- the digits of a word with one more
pub one_more : (word : List ℕ) (s : ℕ) → length (word ++ s ∷ []) ≡ suc (length word)
one_more word s = let e = length-append word (s ∷ []) in omega (arith, e)

pub all_front : (word : List ℕ) (s : ℕ) → All (λ d. d ≤ 9) (word ++ s ∷ []) → All (λ d. d ≤ 9) word
all_front word s all i d l = search (arith, get_or-append, one_more)

pub all_more : (word : List ℕ) (s : ℕ) → All (λ d. d ≤ 9) word → s ≤ 9 → All (λ d. d ≤ 9) (word ++ s ∷ [])
all_more word s all most =
    All-append (λ d. d ≤ 9) word (s ∷ []) all (All-cons (λ d. d ≤ 9) s [] most (All-nil (λ d. d ≤ 9)))

-- the first digit read, and the others from its state on
pub state_later : (step later : ℕ → ℕ → ℕ → ℕ) (start : ℕ) (f : ℕ → ℕ) (n : ℕ)
    → ((i c d : ℕ) → step (suc i) c d ≡ later i c d)
    → state_after step start f (suc n) ≡ state_after later (step 0 start (f 0)) (λ i. f (suc i)) n
unfolding state_after
state_later step later start f zero alike = refl
state_later step later start f (suc n) alike = search (arith, state_later step later start f n alike)

pub state_more : (step : ℕ → ℕ → ℕ → ℕ) (start : ℕ) (f : ℕ → ℕ) (n : ℕ)
    → state_after step start f (n + 1) ≡ step n (state_after step start f n) (f n)
state_more step start f n = ap (state_after step start f) (add-one n) ∙ state_next step start f n
