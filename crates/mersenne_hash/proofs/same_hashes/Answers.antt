use Rattle.std.proofs.Common.{ℕ, ◌%◌, ◌<◌, get_or, arith, refl, sym, ◌∙◌}
use Rattle.std.proofs.Math.Nat.{mod-mod}
use Rattle.std.proofs.lemmas.List.Elements.{All-from_get_or}
use Rattle.num_modular.specs.Mersenne.{mersenne}
use Rattle.mersenne_hash.proofs.same_hashes.Goals as goal

pub returns-clause-same : goal.returns-clause-same
returns-clause-same c lengths enough bases =
    let p : ℕ = mersenne 61 1 in
    let x : ℕ → ℕ = λ i. get_or c.args.bases.now i 0 in (
      λ _. c.collision_laws.ensures.few c.args.first.now c.args.second.now (λ i. x i % p) lengths record {
        apart = λ i j h k ne e. bases.apart i j (omega (arith, h, enough)) (omega (arith, k, enough)) ne
            (sym (mod-mod (x i) p) ∙ e ∙ mod-mod (x j) p);
      } (All-from_get_or (λ b. b < p) _ 0 (λ i l. omega (arith, c.type_inv.first i)))
          (All-from_get_or (λ b. b < p) _ 0 (λ i l. omega (arith, c.type_inv.second i)))
          (λ i l. c.bases.invariant i (omega (arith, l, enough, c.bases-test.false))),
      λ _. refl,
    )
