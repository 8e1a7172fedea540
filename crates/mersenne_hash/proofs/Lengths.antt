-- Texts behind a symbol 1, with zeros in front up to one length: they tell where the text begins.
use Rattle.std.proofs.Common.{◌≡◌, ℕ, suc, ◌+◌, ◌%◌, ◌<◌, List, ◌∷◌, ◌++◌, length, get_or, All}
use Rattle.std.proofs.Common.{replicate, arith, ap, sym, ◌∙◌}
use Rattle.std.proofs.lemmas.Bool.{cases_eq, cases_lt}
use Rattle.std.proofs.Math.ListN.{get_or-append}
use Rattle.std.proofs.Math.Nat.{mod-eq_of_lt}
use Rattle.std.proofs.lemmas.List.{ext_get_or, length-replicate, get_or-replicate, get_or-append-add}

-- the text behind a symbol 1, which stands at the place d
abbrev pub marked : ℕ → List ℕ → List ℕ
marked d text = replicate d 0 ++ 1 ∷ text

-- what stands behind the zeros
at_mark : (d : ℕ) (text : List ℕ) (i : ℕ) → get_or (marked d text) (d + i) 0 ≡ get_or (1 ∷ text) i 0
at_mark d text i =
    ap (λ k. get_or (marked d text) (k + i) 0) (sym (length-replicate d 0))
    ∙ get_or-append-add (replicate d 0) (1 ∷ text) i 0

before_mark : (d : ℕ) (text : List ℕ) (i : ℕ) → i < d → get_or (marked d text) i 0 ≡ 0
before_mark d text i l = search (arith, get_or-append, length-replicate, get_or-replicate)

-- the marks of texts with congruent symbols stand at one place
mark_not_before : (p d e : ℕ) (s t : List ℕ) → 1 < p → d + length s ≡ e + length t
    → ((i : ℕ) → i < d + suc (length s) → get_or (marked d s) i 0 % p ≡ get_or (marked e t) i 0 % p) → d < e → ⊥
mark_not_before p d e s t above same_length same l =
    let one : get_or (marked d s) d 0 ≡ 1 =
    ap (λ k. get_or (marked d s) k 0) (let z : d ≡ d + 0 = omega arith in z) ∙ at_mark d s 0 in
    grind (arith, at_mark, before_mark, mod-eq_of_lt)

-- so the texts are equal
pub same_texts : (p n d e : ℕ) (s t : List ℕ) → 1 < p → n ≡ d + suc (length s) → n ≡ e + suc (length t)
    → All (λ c. c < p) s → All (λ c. c < p) t
    → ((i : ℕ) → i < n → get_or (marked d s) i 0 % p ≡ get_or (marked e t) i 0 % p) → s ≡ t
same_texts p n d e s t above s_whole t_whole s_below t_below same =
    let lengths : d + length s ≡ e + length t = omega (arith, s_whole, t_whole) in
    let not_before = mark_not_before p d e s t above lengths (λ i l. same i (omega (arith, l, s_whole))) in
    let not_behind = mark_not_before p e d t s above (sym lengths) (λ i l. sym (same i (omega (arith, l, t_whole)))) in
    let places : d ≡ e = grind (arith, cases_eq, cases_lt) in
    let counts : length s ≡ length t = omega (arith, lengths, places) in
    ext_get_or 0 s t counts
    (λ i l.
    let here = same (d + suc i) (omega (arith, l, s_whole)) in
    let there = ap (λ k. get_or (marked e t) (k + suc i) 0 % p) places in
    sym (mod-eq_of_lt (s_below i 0 l)) ∙ ap (λ v. v % p) (sym (at_mark d s (suc i))) ∙ here ∙ there
    ∙ ap (λ v. v % p) (at_mark e t (suc i)) ∙ mod-eq_of_lt (t_below i 0 (omega (arith, l, counts))))
