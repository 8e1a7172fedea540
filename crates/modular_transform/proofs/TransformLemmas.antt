-- The whole transform: its sizes, its root, its count, and its end.
use Rattle.std.proofs.Common.{◌↔◌, ◌≡◌, ℕ, suc, zero, ◌+◌, ◌-◌, ◌*◌, ◌%◌, ◌/◌, ◌^◌, ◌<◌, ◌≤◌}
use Rattle.std.proofs.Common.{List, length, get_or, All, sym, ◌∙◌, ap, arith, subst}
use Rattle.std.proofs.lemmas.Nat.{pow-add, pow_pos}
use Rattle.std.proofs.Math.Nat.{two-pow-succ, zero-mod, mul-le-mul_right}
use Rattle.std.specs.Int.{trailing_zeros, w64}
use Rattle.modular_reduced.specs.Forms.{Represents, IsForm}
use Rattle.modular_reduced.proofs.FormLemmas.{form_as}
use Rattle.modular_transform.specs.Transforms.{transform, Suits}
use Rattle.modular_word.specs.Congruence.{Congruent}
use Rattle.modular_transform.specs.Orders.{bits_reversed, IsReordered}
use Rattle.modular_transform.specs.Stages.{IsStage, IsTwoStages}
use Rattle.modular_reduced.specs.Values.{HoldValues}
use Rattle.modular_word.proofs.Congruence.{mod_of_eq, mod_trans, mod_add, mod_mul, mod_pow, residue_of}
use Rattle.modular_word.proofs.Powers.{pow-mul}
use Rattle.modular_reduced.specs.Entries.{entry}
use Rattle.modular_reduced.specs.EntryLaws.{entry_at}
use Rattle.modular_transform.proofs.MinusOne.{IsMinusOne, same_minus_one}
use Rattle.modular_transform.proofs.BitReversal.{bits_reversed_below, bits_reversed_twice}
use Rattle.modular_transform.proofs.PairLemmas.{stage_by}
use Rattle.modular_transform.proofs.PowersOfTwo.{power_by_zeros}
use Rattle.modular_transform.proofs.StageLemmas.{BlocksTransform, stages_more, stages_end, root_squared}

pub suited_length : {m g n : ℕ} → Suits m g n → n < 2 ^ 64 → n ≡ 2 ^ trailing_zeros w64 n
suited_length {m} {g} {n} suits below = power_by_zeros n suits.power_of_two below

-- the sizes of stage t of z stages
pub record StageSizes (z t n half blocks : ℕ) : Type 0 where
  pub next : 2 ^ (z - (t + 1)) ≡ half
  pub now : 2 ^ (z - t) ≡ half + half
  pub whole : blocks * (half + half) ≡ n
  pub some : 0 < blocks
  pub more : 2 ^ (t + 1) ≡ blocks * 2

pub stage_sizes : (z t n half blocks : ℕ) → t < z → n ≡ 2 ^ z → half ≡ 2 ^ (z - t) / 2 → blocks ≡ 2 ^ t
    → StageSizes z t n half blocks
stage_sizes z t n half blocks l whole is_half is_blocks =
    let u = z - (t + 1) in
    let now = ap (λ k. 2 ^ k) (omega arith) ∙ two-pow-succ u in
    let next : 2 ^ u ≡ half = omega (arith, now) in
    let w = whole ∙ ap (λ k. 2 ^ k) (omega arith) ∙ pow-add 2 t (suc u) ∙ ap (λ v. v * 2 ^ suc u) (sym is_blocks)
    ∙ ap (λ v. blocks * v) (two-pow-succ u ∙ ap (λ v. v + v) next) in
    let t1 : t + 1 ≡ suc t = omega arith in
    record {
      next = next;
      now = now ∙ ap (λ v. v + v) next;
      whole = sym w;
      some = let p = pow_pos t in omega arith;
      more = omega (arith, ap (λ k. 2 ^ k) t1 ∙ two-pow-succ t);
    }

-- g to the half of n, by stages
pub stage_half_turn : {m : ℕ} (g z t n half blocks : ℕ) → StageSizes z t n half blocks → blocks ≡ 2 ^ t → 0 < half
    → Suits m g n → IsMinusOne m ((g ^ (2 ^ t)) ^ half)
stage_half_turn {m} g z t n half blocks sizes is_blocks some suits =
    let l : 1 < n = omega (arith, sizes.whole, mul-le-mul_right (half + half) sizes.some) in
    let f : g ^ (n / 2) ≡ (g ^ (2 ^ t)) ^ half =
    grind (arith, pow-mul g (2 ^ t) half) in
    same_minus_one f (record { and_one = record { same = suits.half_turn l ∙ sym (zero-mod m) } })

-- the root of the next stage
pub root_more : {m : ℕ} (g t v w : ℕ) → Congruent m v (g ^ (2 ^ t)) → w ≡ (v * v) % m
    → Congruent m w (g ^ (2 ^ (t + 1)))
root_more g t v w is e =
    mod_trans (mod_of_eq e) (mod_trans (residue_of (v * v))
    (mod_trans (mod_mul is is) (mod_of_eq (root_squared g t ∙ ap (λ k. g ^ (2 ^ k)) (omega arith)))))

-- one stage of the loop
pub blocks_more : {m : ℕ} (g z t n half blocks v : ℕ) (x y w : ℕ → ℕ) → StageSizes z t n half blocks → blocks ≡ 2 ^ t
    → 0 < half → Suits m g n → Congruent m v (g ^ (2 ^ t))
    → BlocksTransform m g n t (2 ^ (z - t)) x y → IsStage m v half blocks y w
    → BlocksTransform m g n (t + 1) (2 ^ (z - (t + 1))) x w
blocks_more {m} g z t n half blocks v x y w sizes is_blocks some suits root before stage =
    let b = subst (λ k. BlocksTransform m g n t k x y) sizes.now before in
    let st = subst (λ k. IsStage m (g ^ (2 ^ t)) half k y w) is_blocks (stage_by y w root stage) in
    let after = stages_more g n t half x y w (stage_half_turn g z t n half blocks sizes is_blocks some suits) b st in
    grind arith

-- the products of the stages so far, of which there are c besides
pub next_stage_products_counted : (z t n half blocks products more c : ℕ) → StageSizes z t n half blocks
    → products + 2 ^ (z - t) ≡ t * (n / 2) + n + c → more ≡ half * (blocks + 1)
    → products + more + 2 ^ (z - (t + 1)) ≡ (t + 1) * (n / 2) + n + c
next_stage_products_counted z t n half blocks products more c sizes before is = omega arith

-- the sizes of two stages
pub record TwoSizes (z t n half blocks : ℕ) : Type 0 where
  pub first : StageSizes z t n half blocks
  pub second : StageSizes z (t + 1) n (half / 2) (blocks * 2)
  pub halved : half ≡ half / 2 + half / 2
  pub some : 0 < half / 2
  pub quarter : 2 ^ (z - (t + 2)) ≡ half / 2

pub two_sizes : (z t n half blocks : ℕ) → t < z → (z - t) % 2 ≡ 0 → n ≡ 2 ^ z → half ≡ 2 ^ (z - t) / 2 → blocks ≡ 2 ^ t
    → TwoSizes z t n half blocks
two_sizes z t n half blocks l even whole is_half is_blocks =
    let one = stage_sizes _ _ _ _ _ l whole is_half is_blocks in
    let next = one.next in
    let two = stage_sizes _ _ _ _ _ (omega arith) whole (ap (λ v. v / 2) (sym next)) (sym one.more) in
    grind (arith, two.now, pow_pos (z - (t + 2)))

-- the root of a pass to the quarter of its block
pub quarter_turn : {m : ℕ} (g z t n half blocks v w : ℕ) → TwoSizes z t n half blocks → t + 2 ≤ z
    → Congruent m v (g ^ (2 ^ t)) → Congruent m w (g ^ (2 ^ (z - 2))) → Congruent m w (v ^ (half / 2))
quarter_turn g z t n half blocks v w sizes l root quarter =
    grind (arith, sizes.quarter, pow-add 2 t (z - (t + 2)), pow-mul g (2 ^ t) (half / 2), mod_pow (half / 2) root)

-- two stages of the loop
pub two_more : {m : ℕ} (g z t n half blocks v w : ℕ) (x y u : ℕ → ℕ) → TwoSizes z t n half blocks → blocks ≡ 2 ^ t
    → Suits m g n → Congruent m v (g ^ (2 ^ t)) → Congruent m w (g ^ (2 ^ (t + 1)))
    → BlocksTransform m g n t (2 ^ (z - t)) x y → IsTwoStages m v w (half / 2) blocks y u
    → BlocksTransform m g n (t + 2) (2 ^ (z - (t + 2))) x u
two_more {m} g z t n half blocks v w x y u sizes is_blocks suits root square before stages = search (arith, blocks_more)

pub two_products_more : (z t n half blocks products more c : ℕ) → TwoSizes z t n half blocks
    → products + 2 ^ (z - t) ≡ t * (n / 2) + n + c → more ≡ half / 2 * (4 * blocks + 3)
    → products + more + 2 ^ (z - (t + 2)) ≡ (t + 2) * (n / 2) + n + c
two_products_more z t n half blocks products more c sizes before is = grind arith

-- what is left: forms in reversed order, put in plain order
pub plain_order : {T : Type 0} (number : T → ℕ) (form value : ℕ → ℕ → ℕ) (m g n z : ℕ) (x : ℕ → ℕ) (forms new : List T)
    → n ≡ 2 ^ z → length forms ≡ n → length new ≡ n → All (λ f. IsForm form value m (number f)) forms
    → BlocksTransform m g n z 1 x (entry number value m forms) → IsReordered (bits_reversed z) forms new
    → HoldValues number form m new (transform m g n x)
plain_order number form value m g n z x forms new whole len len_new checked blocks reordered = record {
  each = λ i d l.
      let j = bits_reversed z i in
      let lj : j < length forms = let b = bits_reversed_below z i in omega arith in
      let is_form = checked j d lj in
      let e : value m (number (get_or forms j d)) ≡ entry number value m forms j = entry_at number value m forms j d
      lj in
      let t = stages_end g n z x (entry number value m forms) j blocks (bits_reversed_below z i)
      (subst (λ v. v < m) e is_form.below) in
      subst (λ y. Represents form m (number y) (transform m g n x i)) (sym (reordered.each i d (omega arith)))
      (form_as is_form (e ∙ t ∙ ap (transform m g n x) (bits_reversed_twice z i (omega arith))));
}

-- after the last stage
pub blocks_all : {m : ℕ} (g z t n : ℕ) (x y : ℕ → ℕ) → z ≤ t → t ≤ z → BlocksTransform m g n t (2 ^ (z - t)) x y
    → BlocksTransform m g n z 1 x y
blocks_all {m} g z t n x y a b blocks = grind arith

pub products_all : (z t n products : ℕ) → z ≤ t → t ≤ z → n ≡ 2 ^ z → products + 2 ^ (z - t) ≡ t * (n / 2) + n + z
    → products ≡ n * z / 2 + n - 1 + z
products_all zero t n products a b whole count = grind arith
products_all (suc z) t n products a b whole count =
    let e : t ≡ suc z = omega arith in
    let o : suc z - t ≡ 0 = omega arith in
    let h : n ≡ 2 * (n / 2) = omega (arith, two-pow-succ z) in
    let nz : n * suc z ≡ 2 * (suc z * (n / 2)) = ap (λ v. v * suc z) h ∙ omega arith in
    let some : 0 < n = let q = pow_pos (suc z) in omega arith in
    omega (arith, ap (λ v. v * (n / 2)) e, ap (λ k. 2 ^ k) o, count, nz)

-- what `root_fits` tests beyond one entry: that 1 added to the power is 0
pub suits_tested : {m : ℕ} (g n z t v one o s : ℕ) → n ≡ 2 ^ z → 0 < z → t ≡ z - 1
    → Congruent m v (g ^ (2 ^ t)) → one ≡ 1
    → o ≡ one % m → s ≡ (v + o) % m → (s ≡ 0) ↔ Suits m g n
suits_tested {m} g n z t v one o s whole some is_t power is_one is_o is_s =
    let d = whole ∙ ap (λ k. 2 ^ k) (omega arith) ∙ two-pow-succ t in
    let o1 : Congruent m o 1 = mod_trans (mod_of_eq is_o) (mod_trans (residue_of one) (mod_of_eq is_one)) in
    let same : s ≡ (g ^ (n / 2) + 1) % m = grind (arith, (mod_add power o1).same) in (
      λ zero. record { power_of_two = (z, whole); half_turn = λ l. sym same ∙ zero },
      λ suits. same ∙ suits.half_turn (omega (arith, d, pow_pos t)),
    )
