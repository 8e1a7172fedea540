use Rattle.std.proofs.Common.{◌^◌}
use Rattle.std.proofs.Math.Nat.{mul-le-mul_right}
use Rattle.std.proofs.lemmas.Nat.{mod-mul-add, div-mul-add}
use Rattle.num_modular.specs.Callers.{refl, ◌≡◌, ℕ, ◌+◌, ◌*◌, ◌/◌, ◌%◌, ◌≤◌, ◌∙◌, ap, sym, arith, length}
use Rattle.num_modular.specs.Callers.{entry, hold_more, held_entry}
use Rattle.num_modular.specs.NumberLaws.{mod_of_eq, mod_trans, residue_of}
use Rattle.ring_codes.proofs.Lagrange.{row_index_below_size}
use Rattle.ring_decoder.proofs.checks.fill_checks.Goals as goal

pub points-preserved : goal.points-preserved
points-preserved g c =
    let ring = g.R.Reducer in let m = ring.modulus c.args.r.now in let number = g.T.RingWord.number in
    let n : ℕ = length c.args.points.now in let h = c.rows.h in let i = c.points.i in let next = c.points.next in
    let x = entry number ring.value m c.args.points.now in let v = entry number ring.value m c.args.weights.now in
    let f : ℕ → ℕ = λ e. (v (e % n) * x (e % n) ^ (e / n)) % m in let at = c.points.invariant.0 in
    let here : f next ≡ (v i * x i ^ h) % m =
    rw (at, mod-mul-add h n i c.points-test.true, div-mul-add h n i c.points-test.true) refl in
    let inside = row_index_below_size h c.args.rows n i c.rows-test.true c.points-test.true in (
      omega (arith, at),
      hold_more number ring.form ring.value m c.points.checks next c.next_check.result f
          (omega (arith, inside, at, c.requires.room)) c.points.invariant.1 c.next_check.ensures.checked
          (c.next_check.ensures.value ∙ sym here),
    )

pub returns-clause-table : goal.returns-clause-table
returns-clause-table g c =
    let ring = g.R.Reducer in let m = ring.modulus c.args.r.now in let number = g.T.RingWord.number in
    let n : ℕ = length c.args.points.now in
    let x = entry number ring.value m c.args.points.now in let v = entry number ring.value m c.args.weights.now in
    let f : ℕ → ℕ = λ e. (v (e % n) * x (e % n) ^ (e / n)) % m in
    let all : c.args.rows * n ≤ c.rows.h * n = mul-le-mul_right n c.rows-test.false in
    record {
      check = λ h i l b.
          let inside = row_index_below_size h c.args.rows n i l b in
          mod_trans (mod_of_eq (held_entry number ring.form ring.value m c.rows.checks f c.rows.next (h * n + i)
          c.rows.invariant.1 (omega (arith, inside, all, c.rows.invariant.0))
          (omega (arith, inside, c.rows.auto.checks, c.requires.room))
          ∙ ap (λ e. (v e * x e ^ ((h * n + i) / n)) % m) (mod-mul-add h n i b)
          ∙ ap (λ e. (v i * x i ^ e) % m) (div-mul-add h n i b))) (residue_of (v i * x i ^ h));
    }
