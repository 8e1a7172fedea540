use Rattle.std.proofs.Common.{◌≡◌, ℕ, ◌*◌, ◌%◌, ◌<◌, length, get_or, sym, ◌∙◌, ap, arith, subst}
use Rattle.std.proofs.Math.Nat.{mod-eq_of_lt}
use Rattle.std.proofs.lemmas.List.{get_or-map}
use Rattle.modular_reduced.specs.Forms.{Represents}
use Rattle.modular_reduced.specs.Values.{values_of}
use Rattle.modular_word.specs.Congruence.{Congruent}
use Rattle.modular_transform.specs.Transforms.{Suits, transform}
use Rattle.test_rings.proofs.tests.transform_callers.there_and_back.Goals as goal

pub ntt-requires-2-clause-suits : goal.ntt-requires-2-clause-suits
ntt-requires-2-clause-suits g c =
    let m = g.R.Reducer.modulus c.args.r.now in
    let h = g.R.Reducer.value m (g.T.RingWord.number c.args.inverse.now) in
    subst (λ n. Suits m h n) (sym c.ntt.auto.xs)
    (c.transform_laws.ensures.inverse _ _ _ _ c.requires.inverse c.requires.suits)

pub returns : goal.returns
returns g c = record {
  each = λ i d l.
      let m = g.R.Reducer.modulus c.args.r.now in
      let number = g.T.RingWord.number in
      let value = g.R.Reducer.value in
      let laws = c.transform_laws.ensures in
      let w = value m (number c.args.g.now) in
      let h = value m (number c.args.inverse.now) in
      let part = value m (number c.args.part.now) in
      let n = length c.args.xs.now in
      let x = λ (j : ℕ). get_or (values_of number value m c.args.xs.now) j 0 in
      let y = λ (j : ℕ). get_or (values_of number value m c.ntt.new.xs) j 0 in
      let z = λ (j : ℕ). get_or (values_of number value m c.ntt-2.new.xs) j 0 in
      let first : length c.ntt.new.xs ≡ n = c.ntt.auto.xs in
      let second : length c.ntt-2.new.xs ≡ length c.ntt.new.xs = c.ntt-2.auto.xs in
      let third : length c.scale_list.new.xs ≡ length c.ntt-2.new.xs = c.scale_list.auto.xs in
      let within : i < n = omega arith in
      let v_is : value m (number (get_or c.args.xs.now i d)) ≡ x i =
      sym (get_or-map (λ f. value m (number f)) c.args.xs.now i d 0 within) in
      let small : x i < m = subst (λ v. v < m) v_is (c.requires.checked i d within).below in
      let there : (j : ℕ) → j < n → Congruent m (y j) (transform m w n x j) =
      λ j k. record { same = ap (λ v. v % m) (c.ntt.ensures.values j k) } in
      let back : z i ≡ transform m h n (transform m w n x) i =
      c.ntt-2.ensures.values i (omega arith) ∙ ap (λ k. transform m h k y i) first
      ∙ laws.congruent m h n i y (transform m w n x) there in
      let restored : (z i * part) % m ≡ x i =
      ap (λ v. (v * part) % m) back ∙ (laws.restored m w h part n i x c.requires.inverse c.requires.part
      c.requires.suits within).same ∙ mod-eq_of_lt small in
      subst (λ v. Represents g.R.Reducer.form m (number (get_or c.scale_list.new.xs i d)) v) restored
      (c.scale_list.ensures.entries.each i d l);
}
