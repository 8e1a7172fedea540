-- Sums over a range: of f 0, .., f (n - 1), and of f 1, .., f h.
use Rattle.std.proofs.Common.{Bool, true, false, ◌≡◌, ℕ, zero, suc, ◌+◌, ◌-◌, ◌*◌, ◌%◌, ◌<◌}
use Rattle.std.proofs.Common.{◌≤◌, cond, eqb, sym, ◌∙◌, ap, refl, arith, ⊎_elim, ◌≢◌, ◌⊎◌}
use Rattle.std.proofs.lemmas.Bool.Decides.{nat_tests}
use Rattle.std.proofs.Math.Nat.{add-zero, mul-zero}
use Rattle.modular_word.specs.Congruence.{Congruent}
use Rattle.std.proofs.Math.Bool.{not}
use Rattle.modular_word.specs.Sums.{sum_below, sum_to, count_to, Permutes}
use Rattle.modular_word.proofs.Congruence.{mod_refl, mod_add}

pub sum_to-zero : (f : ℕ → ℕ) → sum_to f 0 ≡ 0
unfolding sum_to
sum_to-zero f = refl

pub sum_to-suc : (f : ℕ → ℕ) (h : ℕ) → sum_to f (suc h) ≡ sum_to f h + f (suc h)
unfolding sum_to
sum_to-suc f h = refl

-- two sums agree where their terms do
pub sum_to-same : (f g : ℕ → ℕ) (h : ℕ) → ((x : ℕ) → 0 < x → x ≤ h → f x ≡ g x) → sum_to f h ≡ sum_to g h
unfolding sum_to
sum_to-same f g zero e = refl
sum_to-same f g (suc h) e = grind (arith, sum_to-same f g h (λ x p q. e x p (omega arith)))

pub sum_to-le : (f g : ℕ → ℕ) (h : ℕ) → ((x : ℕ) → 0 < x → x ≤ h → f x ≤ g x) → sum_to f h ≤ sum_to g h
unfolding sum_to
sum_to-le f g zero e = omega arith
sum_to-le f g (suc h) e = grind (arith, sum_to-le f g h (λ x p q. e x p (omega arith)))

pub sum_to-add : (f g : ℕ → ℕ) (h : ℕ) → sum_to (λ x. f x + g x) h ≡ sum_to f h + sum_to g h
unfolding sum_to
sum_to-add f g zero = refl
sum_to-add f g (suc h) = let i = sum_to-add f g h in omega arith

pub sum_to-nothing : (h : ℕ) → sum_to (λ x. 0) h ≡ 0
unfolding sum_to
sum_to-nothing zero = refl
sum_to-nothing (suc h) = let i = sum_to-nothing h in omega arith

pub sum_to-ones : (h : ℕ) → sum_to (λ x. 1) h ≡ h
unfolding sum_to
sum_to-ones zero = refl
sum_to-ones (suc h) = let i = sum_to-ones h in omega arith

-- the order of two sums is free
pub sum_to-swap : (f : ℕ → ℕ → ℕ) (h k : ℕ)
    → sum_to (λ x. sum_to (λ y. f x y) k) h ≡ sum_to (λ y. sum_to (λ x. f x y) h) k
unfolding sum_to
sum_to-swap f zero k = sym (sum_to-nothing k)
sum_to-swap f (suc h) k =
    let i = sum_to-swap f h k in
    let j = sum_to-add (λ y. sum_to (λ x. f x y) h) (λ y. f (suc h) y) k in
    omega arith

pub last_or_before : (z h : ℕ) → z ≤ suc h → (z ≤ h) ⊎ (z ≡ suc h)
last_or_before z h q = grind arith

-- one term of a sum is split off
pub sum_to-only : (f : ℕ → ℕ) (h z : ℕ) → 0 < z → z ≤ h → ((x : ℕ) → 0 < x → x ≤ h → x ≢ z → f x ≡ 0) → sum_to f h ≡ f z
unfolding sum_to
sum_to-only f zero z p q e = absurd (omega arith)
sum_to-only f (suc h) z p q e =
    ⊎_elim
    (λ (l : z ≤ h).
    let i = sum_to-only f h z p l (λ x u v w. e x u (omega arith) w) in
    let j = e (suc h) (omega arith) (omega arith) (omega arith) in
    omega arith)
    (λ (l : z ≡ suc h).
    let i = sum_to-same f (λ x. 0) h (λ x u v. e x u (omega arith) (omega arith)) in
    let j = sum_to-nothing h in
    let k = ap f l in
    omega arith)
    (last_or_before z h q)

-- where each term is at most 1 and the sum is full, each term is 1
pub sum_to-full : (f : ℕ → ℕ) (h : ℕ) → ((x : ℕ) → 0 < x → x ≤ h → f x ≤ 1) → sum_to f h ≡ h
    → (x : ℕ) → 0 < x → x ≤ h → f x ≡ 1
unfolding sum_to
sum_to-full f zero e s x p q = absurd (omega arith)
sum_to-full f (suc h) e s x p q =
    let b = sum_to-le f (λ x. 1) h (λ x u v. e x u (omega arith)) in
    let o = sum_to-ones h in
    ⊎_elim
    (λ (l : x ≤ h). sum_to-full f h (λ x u v. e x u (omega arith)) (omega arith) x p l)
    (λ (l : x ≡ suc h). let k = ap f l in omega arith) (last_or_before x h q)

pub sum_to-scale : (f : ℕ → ℕ) (h k : ℕ) → sum_to (λ x. f x * k) h ≡ sum_to f h * k
unfolding sum_to
sum_to-scale f zero k = omega arith
sum_to-scale f (suc h) k = let i = sum_to-scale f h k in omega arith

-- sums of terms with equal parities have equal parities
pub sum_to-parity : (f g : ℕ → ℕ) (h : ℕ) → ((x : ℕ) → 0 < x → x ≤ h → f x % 2 ≡ g x % 2)
    → sum_to f h % 2 ≡ sum_to g h % 2
unfolding sum_to
sum_to-parity f g zero e = refl
sum_to-parity f g (suc h) e = grind (arith, sum_to-parity f g h (λ x p q. e x p (omega arith)))

none_or_one : (n : ℕ) → n ≤ 1 → (n ≡ 0) ⊎ (n ≡ 1)
none_or_one n h = grind arith

-- terms of at most 1, no two of which are 1, have a sum of at most 1
pub sum_to-at_most_one : (f : ℕ → ℕ) (h : ℕ) → ((x : ℕ) → f x ≤ 1)
    → ((x z : ℕ) → 0 < x → x ≤ h → 0 < z → z ≤ h → f x ≡ 1 → f z ≡ 1 → x ≡ z) → sum_to f h ≤ 1
unfolding sum_to
sum_to-at_most_one f zero b e = omega arith
sum_to-at_most_one f (suc h) b e =
    ⊎_elim
    (λ (l : f (suc h) ≡ 0).
    let i = sum_to-at_most_one f h b (λ x z p q u v. e x z p (omega arith) u (omega arith)) in
    omega arith)
    (λ (l : f (suc h) ≡ 1).
    let i = sum_to-same f (λ x. 0) h (λ x p q.
    grind (arith, none_or_one)) in
    let j = sum_to-nothing h in
    omega arith)
    (none_or_one (f (suc h)) (b (suc h)))

-- 1 where two numbers are equal, else 0
pub equality_indicator : ℕ → ℕ → ℕ
equality_indicator u v = cond (eqb u v) 1 0

pub equality_indicator-le : (u v : ℕ) → equality_indicator u v ≤ 1
unfolding equality_indicator
equality_indicator-le u v = grind (arith, nat_tests)

pub equality_indicator-same : (u v : ℕ) → u ≡ v → equality_indicator u v ≡ 1
unfolding equality_indicator
equality_indicator-same u v e = grind (arith, nat_tests)

equality_indicator-one : (u v : ℕ) → equality_indicator u v ≡ 1 → u ≡ v
unfolding equality_indicator
equality_indicator-one u v e = grind (arith, nat_tests)

pub equality_indicator-other : (u v : ℕ) → u ≢ v → equality_indicator u v ≡ 0
unfolding equality_indicator
equality_indicator-other u v e = grind (arith, nat_tests)

-- how many of 1, .., h are mapped to y
abbrev pub hits : (ℕ → ℕ) → ℕ → ℕ → ℕ
hits f h y = sum_to (λ x. equality_indicator (f x) y) h

one_hit : (f : ℕ → ℕ) (h x : ℕ) → Permutes f h → 0 < x → x ≤ h → sum_to (λ y. equality_indicator (f x) y) h ≡ 1
one_hit f h x m p q =
    sum_to-only (λ y. equality_indicator (f x) y) _ (f x) (m.positive x p q) (m.within x p q)
    (λ y u v w. equality_indicator-other (f x) y (λ e. w (sym e))) ∙ equality_indicator-same (f x) (f x) refl

all_hits : (f : ℕ → ℕ) (h : ℕ) → Permutes f h → sum_to (λ y. hits f h y) h ≡ h
all_hits f h m =
    sym (sum_to-swap (λ x y. equality_indicator (f x) y) _ _)
    ∙ sum_to-same (λ x. sum_to (λ y. equality_indicator (f x) y) h) (λ x. 1) _ (λ x p q. one_hit _ _ x m p q)
    ∙ sum_to-ones _

hits_le : (f : ℕ → ℕ) (h y : ℕ) → Permutes f h → hits f h y ≤ 1
hits_le f h y m = grind (arith, sum_to-at_most_one, equality_indicator, equality_indicator-le, equality_indicator-one)

-- each number is hit once
pub hits_one : (f : ℕ → ℕ) (h y : ℕ) → Permutes f h → 0 < y → y ≤ h → hits f h y ≡ 1
hits_one f h y m p q = sum_to-full (λ y. hits f h y) h (λ z u v. hits_le f h z m) (all_hits f h m) y p q

-- the term at f x, among all
sum_of_hits_at_index : (f g : ℕ → ℕ) (h x : ℕ) → Permutes f h → 0 < x → x ≤ h
    → sum_to (λ y. equality_indicator (f x) y * g y) h ≡ g (f x)
sum_of_hits_at_index f g h x m p q =
    sum_to-only (λ y. equality_indicator (f x) y * g y) _ (f x) (m.positive x p q) (m.within x p q)
    (λ y u v w. let z = equality_indicator-other (f x) y (λ e. w (sym e)) in ap (λ n. n * g y) z ∙ omega arith)
    ∙ (let o = equality_indicator-same (f x) (f x) refl in ap (λ n. n * g (f x)) o ∙ omega arith)

sum_of_hits_at_value : (f g : ℕ → ℕ) (h y : ℕ) → Permutes f h → 0 < y → y ≤ h
    → sum_to (λ x. equality_indicator (f x) y * g y) h ≡ g y
sum_of_hits_at_value f g h y m p q = sum_to-scale (λ x. equality_indicator (f x) y) _ (g y)
    ∙ ap (λ n. n * g y) (hits_one _ _ _ m p q) ∙ omega arith

-- a permutation leaves a sum as it is
pub sum_to-permuted : (f g : ℕ → ℕ) (h : ℕ) → Permutes f h → sum_to (λ x. g (f x)) h ≡ sum_to g h
sum_to-permuted f g h m =
    sym (sum_to-same (λ x. sum_to (λ y. equality_indicator (f x) y * g y) h) (λ x. g (f x)) h
    (λ x p q. sum_of_hits_at_index f g h x m p q))
    ∙ sum_to-swap (λ x y. equality_indicator (f x) y * g y) h h
    ∙ sum_to-same (λ y. sum_to (λ x. equality_indicator (f x) y * g y) h) g h (λ y p q. sum_of_hits_at_value f g h y m p
    q)

-- a sum taken backwards
pub sum_to-reversed : (g : ℕ → ℕ) (h : ℕ) → sum_to (λ x. g (suc h - x)) h ≡ sum_to g h
sum_to-reversed g h =
    sum_to-permuted (λ x. suc h - x) _ _
    (record {
      positive = λ x p q. omega arith;
      within = λ x p q. omega arith;
      apart = λ x z p q u v e. omega arith;
    })

pub sum_below-zero : (f : ℕ → ℕ) → sum_below 0 f ≡ 0
unfolding sum_below
sum_below-zero f = refl

pub sum_below-suc : (n : ℕ) (f : ℕ → ℕ) → sum_below (suc n) f ≡ sum_below n f + f n
unfolding sum_below
sum_below-suc n f = refl

-- by its first term
pub sum_below-first : (n : ℕ) (f : ℕ → ℕ) → sum_below (suc n) f ≡ f 0 + sum_below n (λ i. f (suc i))
unfolding sum_below
sum_below-first zero f = omega arith
sum_below-first (suc n) f = let before = sum_below-first n f in omega (arith, before)

-- equal summands, equal sums
pub sum_below-same : (n : ℕ) (f g : ℕ → ℕ) → ((i : ℕ) → i < n → f i ≡ g i) → sum_below n f ≡ sum_below n g
unfolding sum_below
sum_below-same zero f g h = refl
sum_below-same (suc n) f g h = grind (arith, sum_below-same n f g (λ i l. h i (omega arith)))

-- a sum from its last term on
pub sum_below-reversed : (n : ℕ) (f : ℕ → ℕ) → sum_below n (λ i. f (n - 1 - i)) ≡ sum_below n f
sum_below-reversed zero f = sum_below-zero _ ∙ sym (sum_below-zero f)
sum_below-reversed (suc n) f = search (arith, sum_below-suc, sum_below-first, sum_below-same, sum_below-reversed n f)

-- congruent summands, congruent sums
pub sum_below-congruent : {m : ℕ} (n : ℕ) (f g : ℕ → ℕ) → ((i : ℕ) → i < n → Congruent m (f i) (g i))
    → Congruent m (sum_below n f) (sum_below n g)
unfolding sum_below
sum_below-congruent zero f g h = mod_refl 0
sum_below-congruent (suc n) f g h = mod_add (sum_below-congruent n f g (λ i l. h i (omega arith))) (h n (omega arith))

pub sum_below-add : (n : ℕ) (f g : ℕ → ℕ) → sum_below n (λ i. f i + g i) ≡ sum_below n f + sum_below n g
unfolding sum_below
sum_below-add zero f g = refl
sum_below-add (suc n) f g = let e = sum_below-add n f g in omega (arith, e)

pub sum_below-mul : (n c : ℕ) (f : ℕ → ℕ) → sum_below n (λ i. c * f i) ≡ c * sum_below n f
unfolding sum_below
sum_below-mul zero c f = sym (mul-zero c)
sum_below-mul (suc n) c f = let e = sum_below-mul n c f in omega (arith, e)

pub sum_below-of_zeros : (n : ℕ) (f : ℕ → ℕ) → ((i : ℕ) → i < n → f i ≡ 0) → sum_below n f ≡ 0
unfolding sum_below
sum_below-of_zeros zero f h = refl
sum_below-of_zeros (suc n) f h = grind (arith, sum_below-of_zeros n f (λ i l. h i (omega arith)))

-- n summands of at most b
pub sum_below-bounded : (n b : ℕ) (f : ℕ → ℕ) → ((i : ℕ) → i < n → f i ≤ b) → sum_below n f ≤ n * b
unfolding sum_below
sum_below-bounded zero b f few = omega arith
sum_below-bounded (suc n) b f few = grind (arith, sum_below-bounded n b f (λ i l. few i (omega arith)))

-- n summands c
pub sum_below-of_constant : (n c : ℕ) → sum_below n (λ i. c) ≡ n * c
unfolding sum_below
sum_below-of_constant zero c = omega arith
sum_below-of_constant (suc n) c = let e = sum_below-of_constant n c in omega (arith, e)

-- a sum in two parts
pub sum_below-joined : (a b : ℕ) (f : ℕ → ℕ) → sum_below (a + b) f ≡ sum_below a f + sum_below b (λ i. f (a + i))
unfolding sum_below
sum_below-joined a zero f = rw (add-zero a) (omega arith)
sum_below-joined a (suc b) f =
    let s : a + suc b ≡ suc (a + b) = omega arith in
    ap (λ n. sum_below n f) s ∙ omega (arith, (sum_below-joined a b f))

-- rows or columns first
pub sum_below-exchanged : (n k : ℕ) (f : ℕ → ℕ → ℕ)
    → sum_below n (λ i. sum_below k (λ j. f i j)) ≡ sum_below k (λ j. sum_below n (λ i. f i j))
unfolding sum_below
sum_below-exchanged zero k f = sym (sum_below-of_zeros k (λ j. 0) (λ i l. refl))
sum_below-exchanged (suc n) k f =
    let s = sum_below-add _ (λ j. sum_below n (λ i. f i j)) (λ j. f n j) in
    ap (λ v. v + sum_below k (λ j. f n j)) (sum_below-exchanged n k f) ∙ sym s

-- a product of sums
pub sum_below-times_sum : (n k : ℕ) (f g : ℕ → ℕ)
    → sum_below n f * sum_below k g ≡ sum_below n (λ i. sum_below k (λ j. f i * g j))
unfolding sum_below
sum_below-times_sum zero k f g = omega arith
sum_below-times_sum (suc n) k f g = omega (arith, (sum_below-times_sum n k f g), (sum_below-mul k (f n) g))

-- a sum from 1 to h, with the places counted from 0
pub sum_to-from_below : (f : ℕ → ℕ) (h : ℕ) → sum_to f h ≡ sum_below h (λ x. f (suc x))
unfolding sum_to sum_below
sum_to-from_below f zero = refl
sum_to-from_below f (suc h) = let i = sum_to-from_below f h in omega arith

count_more : (t : Bool) (a b h : ℕ) → a + b ≡ h → (a + cond t 1 0) + (b + cond (not t) 1 0) ≡ suc h
count_more true a b h e = omega arith
count_more false a b h e = omega arith

-- the numbers that pass a test and those that fail it
pub count_to-parts : (p : ℕ → Bool) (h : ℕ) → count_to p h + count_to (λ x. not (p x)) h ≡ h
unfolding sum_to
count_to-parts p zero = refl
count_to-parts p (suc h) = count_more (p (suc h)) (count_to p h) (count_to (λ x. not (p x)) h) h (count_to-parts p h)

-- the laws of sums
pub ruleset sums = (sum_to-swap, sum_to-permuted, sum_to-reversed, sum_to-from_below, sum_to-parity, count_to-parts)
