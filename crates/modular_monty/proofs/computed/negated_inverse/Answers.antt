use Rattle.std.proofs.Common.{◌≡◌, ℕ, ◌+◌, ◌-◌, ◌*◌, ◌%◌, ◌^◌, ◌≤◌, sym, ◌∙◌, arith, refl}
use Rattle.std.proofs.Math.Nat.{mod-eq_of_lt}
use Rattle.std.proofs.lemmas.Nat.{pow_pos}
use Rattle.modular_word.proofs.Lifting.{InverseTo, lower_power, lift_start, lift_step, lift_end}
use Rattle.modular_monty.proofs.computed.negated_inverse.Goals as goal

-- the negative of an inverse in words of w bits, in words of v
negative_below : (w v m i bits r : ℕ) → 8 ≤ v → v ≤ w → InverseTo w m i bits → v ≤ bits → (r + i) % 2 ^ w ≡ 0
    → (m * r) % 2 ^ v ≡ 2 ^ v - 1
negative_below w v m i bits r wide at_most is over none =
    let lower : InverseTo v m i bits = record { inverse = λ c h k. is.inverse c h (omega (arith, k, at_most)) } in
    let zero : (n : ℕ) → 0 % 2 ^ n ≡ 0 = λ n. mod-eq_of_lt (pow_pos n) in
    lift_end v (2 ^ v) m i bits r refl wide lower over
    (lower_power v w (r + i) 0 at_most (none ∙ sym (zero w)) ∙ zero v)

pub lift-init : goal.lift-init
lift-init c = record { lifted = λ odd. lift_start 64 _ _ odd refl; some = omega arith }

pub lift-preserved : goal.lift-preserved
lift-preserved c = record {
  lifted = λ odd. lift_step 64 _ _ _ _ _ _ _ _ refl (c.lift.invariant.lifted odd) refl (omega arith) refl refl;
  some = omega (arith, c.lift.invariant.some);
}

pub returns : goal.returns
returns c = λ odd. record {
  product =
      negative_below 64 _ _ _ _ _ c.requires.from c.requires.to (c.lift.invariant.lifted odd) c.lift-test.false
      (omega arith);
}
