use Rattle.std.proofs.Common.{◌≡◌, ℕ, ◌*◌, ◌/◌, ◌<◌, ◌≤◌, length, refl, arith}
use Rattle.std.proofs.Math.Nat.{div-one}
use Rattle.modular_transform.proofs.PowersOfTwo.{power_by_zeros}
use Rattle.modular_plan_passes.specs.Plans.{numbers}
use Rattle.modular_plan_transforms.proofs.NaturalOrder.{all_reordered}
use Rattle.num_modular_c.specs.Plans.{HasTwiddles}
use Rattle.num_modular_c.proofs.ShorterBack.{undone_by_join}
use Rattle.num_modular_c.proofs.plan_value.nm_plan_inverse.Goals as goal

pub inverse_of_count-requires : goal.inverse_of_count-requires
inverse_of_count-requires c = rw div-one at (c.if-not-is_split.ensures.0 refl).blocks.count

pub reverse_places-requires-clause-whole : goal.reverse_places-requires-clause-whole
reverse_places-requires-clause-whole c =
    power_by_zeros (length c.args.xs.now) (rw div-one at (c.if-not-is_split.ensures.0 refl).blocks.count) (omega arith)

pub join_scaled-requires-clause-entries : goal.join_scaled-requires-clause-entries
join_scaled-requires-clause-entries c =
    let n = length c.args.xs.now in
    let split = c.if-not-is_split.ensures.0 refl in
    let whole = power_by_zeros n (rw div-one at split.blocks.count) (omega arith) in
    rw c.new-m.ensures (all_reordered (λ x. x < 4 * c.args.plan.now.modulus) _ n c.args.xs.now
    c.reverse_places.new.entries whole refl (omega arith) c.reverse_places.ensures split.room)

pub join_scaled-requires-clause-blocks : goal.join_scaled-requires-clause-blocks
join_scaled-requires-clause-blocks c =
    let same : length c.reverse_places.new.entries ≡ length c.args.xs.now = omega arith in
    rw same (c.if-not-is_split.ensures.0 refl).blocks

pub returns-clause-did : goal.returns-clause-did
returns-clause-did c fits inverse =
    let n = length c.args.xs.now in
    let mid = c.reverse_places.new.entries in
    let len : length mid ≡ n = omega arith in
    let whole = power_by_zeros n (rw div-one at fits.blocks.count) (omega arith) in
    let within : n / 2 ≤ length c.args.plan.now.table.now = omega (arith, fits.blocks.within) in
    let part = rw c.new-m.ensures at c.in-Some.ensures.1 in
    let joined = rw (c.new-m.ensures, len, div-one) at c.join_scaled.ensures.joined in
    let undone = λ (g z : ℕ) (twiddles : HasTwiddles c.args.plan.now.modulus g z c.args.plan.now.table.now).
    undone_by_join _ g z n _ _ _ _ c.args.xs.now mid (numbers (λ x. x) c.join_scaled.new.xs) fits.admitted.0 whole refl
    len within twiddles c.reverse_places.ensures part (λ x. joined g z x twiddles) in (
      refl,
      record {
        below = rw c.new-m.ensures at c.join_scaled.ensures.below;
        values = λ g z j twiddles. (undone g z twiddles).values j;
        only = λ g z x twiddles. (undone g z twiddles).only x;
      },
    )
