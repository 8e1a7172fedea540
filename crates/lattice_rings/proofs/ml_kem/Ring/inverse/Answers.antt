use Rattle.std.proofs.Common.{◌≡◌, ℕ, ◌+◌, ◌*◌, ◌%◌, ◌<◌, slice_index, ◌∙◌, refl, arith}
use Rattle.std.proofs.Math.Nat.{mod-mod}
use Rattle.lattice_rings.proofs.Blocks.{AreValues, join_entries, inverse_polynomial, inverse_polynomial_values}
use Rattle.lattice_rings.proofs.Kem.{IsKemTransform-from_values, AreValues-from_kem_transform, kem_transform_same}
use Rattle.lattice_rings.proofs.ml_kem.Ring.inverse.Goals as goal

pub join-requires-clause-blocks : goal.join-requires-clause-blocks
join-requires-clause-blocks c =
    let table = c.plan.ensures.table in
    record { some = omega arith; count = (7, omega arith); whole = omega arith; within = omega (arith, table) }

-- the list is that of each polynomial whose transform was given
inverse_entries : (c : goal.After-join) (x : ℕ → ℕ) → AreValues 3329 17 7 2 x (slice_index c.args.w.now)
    → (i : ℕ) → i < 256 → slice_index c.join.new.xs i ≡ x i % 3329
inverse_entries c x are i l = join_entries _ x _ _ (search arith) are (c.join.ensures.joined x) i (omega arith)

pub returns-clause-unique : goal.returns-clause-unique
returns-clause-unique c = λ x is. inverse_entries c x (AreValues-from_kem_transform x (slice_index c.args.w.now) is)

pub returns-clause-inverse : goal.returns-clause-inverse
returns-clause-inverse c =
    let y = slice_index c.args.w.now in
    let x = inverse_polynomial 3329 1175 2419 7 2 3303 y in
    let back = λ (v : ℕ → ℕ) (k : ℕ) (l : k < 128). c.transform_laws.ensures.back 3329 2419 289 128 k v
    record { below = omega arith; one = refl } record { power_of_two = (7, refl); half_turn = λ l. refl } l in
    let values = inverse_polynomial_values 17 1175 289 2419 7 2 3303 y record { same = refl } record { same = refl }
    record { same = refl } back (λ j i lj li. c.requires (j * 2 + i) 0 (omega arith)) in
    kem_transform_same (slice_index c.join.new.xs) x y (λ i l. inverse_entries c x values i l ∙ mod-mod _ 3329)
    (IsKemTransform-from_values x y values)
