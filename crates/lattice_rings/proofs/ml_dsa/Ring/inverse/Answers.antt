use Rattle.std.proofs.Common.{◌≡◌, ℕ, ◌+◌, ◌*◌, ◌%◌, ◌<◌, slice_index, ◌∙◌, refl, arith}
use Rattle.std.proofs.Math.Nat.{mod-mod}
use Rattle.lattice_rings.proofs.Blocks.{AreValues, join_entries, inverse_polynomial, inverse_polynomial_values}
use Rattle.lattice_rings.proofs.Dsa.{IsDsaTransform-from_values, AreValues-from_dsa_transform, dsa_transform_same}
use Rattle.lattice_rings.proofs.ml_dsa.Ring.inverse.Goals as goal

pub join-requires-clause-blocks : goal.join-requires-clause-blocks
join-requires-clause-blocks c =
    let table = c.plan.ensures.table in
    record { some = omega arith; count = (8, omega arith); whole = omega arith; within = omega (arith, table) }

-- the list is that of each polynomial whose transform was given
inverse_entries : (c : goal.After-join) (x : ℕ → ℕ) → AreValues 8380417 1753 8 1 x (slice_index c.args.w.now)
    → (i : ℕ) → i < 256 → slice_index c.join.new.xs i ≡ x i % 8380417
inverse_entries c x are i l = join_entries _ x _ _ (search arith) are (c.join.ensures.joined x) i (omega arith)

pub returns-clause-unique : goal.returns-clause-unique
returns-clause-unique c = λ x is. inverse_entries c x (AreValues-from_dsa_transform x (slice_index c.args.w.now) is)

pub returns-clause-inverse : goal.returns-clause-inverse
returns-clause-inverse c =
    let y = slice_index c.args.w.now in
    let x = inverse_polynomial 8380417 731434 6635910 8 1 8347681 y in
    let back = λ (v : ℕ → ℕ) (k : ℕ) (l : k < 256). c.transform_laws.ensures.back 8380417 6635910 3073009 256 k v
    record { below = omega arith; one = refl } record { power_of_two = (8, refl); half_turn = λ l. refl } l in
    let values = inverse_polynomial_values 1753 731434 3073009 6635910 8 1 8347681 y record { same = refl }
    record { same = refl } record { same = refl } back (λ j i lj li. c.requires (j * 1 + i) 0 (omega arith)) in
    dsa_transform_same (slice_index c.join.new.xs) x y (λ i l. inverse_entries c x values i l ∙ mod-mod _ 8380417)
    (IsDsaTransform-from_values x y values)
