use Rattle.std.proofs.Common.{◌≡◌, ℕ, ◌+◌, ◌-◌, ◌^◌, ◌%◌, ◌∷◌, length, get_or, arith, ap, sym, ◌∙◌, lit<}
use Rattle.std.proofs.Math.Nat.{mod-eq_of_lt}
use Rattle.std.proofs.lemmas.List.{ext_get_or}
use Rattle.num_modular.specs.Mersenne.{mersenne}
use Rattle.num_modular.specs.NumberLaws.{mod_add, mod_mul, mod_refl, residue_of}
use Rattle.num_modular.specs.Sums.{polynomial_highest_first}
use Rattle.mersenne_hash.proofs.Concatenations.{polynomial_of_joined, polynomial_behind_zeros}
use Rattle.mersenne_hash.proofs.FalseHits.{few_false_hits}
use Rattle.mersenne_hash.proofs.Lengths.{marked, same_texts}
use Rattle.mersenne_hash.proofs.Primality.{modulus_prime}
use Rattle.mersenne_hash.proofs.collision_laws.Goals as goal

pub returns-clause-prime : goal.returns-clause-prime
returns-clause-prime c = modulus_prime c.prime_laws.ensures.fermat c.prime_laws.ensures.inverse

pub returns-clause-few : goal.returns-clause-few
returns-clause-few c s t x lengths bases s_below t_below hashes =
    let p : ℕ = mersenne 61 1 in
    let n = length s in
    let units = c.polynomial_laws.ensures.prime p n x (returns-clause-prime c) bases.apart in
    let congruent = c.polynomial_laws.ensures.descending p n (λ i. get_or s i 0) (λ i. get_or t i 0) x units
    (λ i l. hashes i l ∙ ap (λ k. polynomial_highest_first k (λ j. get_or t j 0) (x i) % p) (sym lengths)) in
    ext_get_or 0 s t lengths
    (λ i l.
    sym (mod-eq_of_lt (s_below i 0 l)) ∙ congruent i l ∙ mod-eq_of_lt (t_below i 0 (omega (arith, l, lengths))))

pub returns-clause-lengths : goal.returns-clause-lengths
returns-clause-lengths c s t n x s_few t_few bases s_below t_below hashes =
    let p : ℕ = mersenne 61 1 in
    let horner = c.range_laws.ensures.horner in
    let d : ℕ = n - length s in let e : ℕ = n - length t in
    let s_whole : n + 1 ≡ d + length (1 ∷ s) = omega (arith, s_few) in
    let t_whole : n + 1 ≡ e + length (1 ∷ t) = omega (arith, t_few) in
    let units = c.polynomial_laws.ensures.prime p (n + 1) x (returns-clause-prime c) bases.apart in
    same_texts p (n + 1) d e s t (lit< tt) s_whole t_whole s_below t_below
    (c.polynomial_laws.ensures.descending p (n + 1) (λ i. get_or (marked d s) i 0) (λ i. get_or (marked e t) i 0) x
    units
    (λ i l.
    ap (λ v. v % p) (polynomial_behind_zeros horner _ d (1 ∷ s) (x i) s_whole) ∙ hashes i l
    ∙ ap (λ v. v % p) (sym (polynomial_behind_zeros horner _ e (1 ∷ t) (x i) t_whole))))

pub returns-clause-joined : goal.returns-clause-joined
returns-clause-joined c s t x =
    ap (λ v. v % mersenne 61 1) (polynomial_of_joined c.range_laws.ensures.horner s t x)
    ∙ sym (mod_add (mod_mul (residue_of _) (mod_refl (x ^ length t))) (residue_of _)).same

pub returns-clause-search : goal.returns-clause-search
returns-clause-search c = few_false_hits (returns-clause-few c)
