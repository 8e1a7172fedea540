use Rattle.ring_codes.proofs.Names.{◌%◌, ◌^◌, arith, add-one, pow-zero, pow-suc, mul-mod_first, hold_more}
use Rattle.ring_codes.proofs.erasure.powers.fill_powers.Goals as goal

pub powers-init : goal.powers-init
powers-init g c = grind (arith, pow-zero)

pub powers-preserved : goal.powers-preserved
powers-preserved g c =
    let ring = g.R.Reducer in let m = ring.modulus c.args.r.now in let number = g.T.RingWord.number in
    let a = ring.value m (number c.args.g.now) in let i = c.powers.i in
    let held = c.powers.invariant.0 in let next = c.powers.invariant.1 in (
      hold_more number ring.form ring.value m c.powers.points i c.powers.power (λ i. a ^ i % m) (omega arith) held
          next.checked next.same,
      record {
        checked = c.mul-power.ensures.checked;
        same = rw (add-one i, pow-suc a i) (rw (next.same, mul-mod_first (a ^ i) a m) at c.mul-power.ensures.value);
      },
    )
