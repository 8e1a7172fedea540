-- The powers of the columns of two stages.
use Rattle.std.proofs.Common.{ℕ, ◌+◌, ◌*◌, ◌%◌, ◌^◌, ◌<◌, List, length, get_or, sym, ◌∙◌, ap, arith}
use Rattle.std.proofs.Common.{inl, inr, subst, get_or-set_same, get_or-set_other}
use Rattle.std.proofs.Math.ListN.{set}
use Rattle.std.proofs.lemmas.Bool.{cases_eq}
use Rattle.modular_word.specs.Congruence.{Congruent}
use Rattle.modular_reduced.specs.Forms.{Represents, IsCanonical}
use Rattle.modular_reduced.proofs.FormLemmas.{form_of_value}
use Rattle.modular_transform.specs.Stages.{ArePowers}
use Rattle.modular_transform.proofs.StripPowers.{next_running_power_congruent}

-- modulo m, p and q are the powers i and h + i of w, and s is the power i of v: those of column i of two stages
pub record IsColumn (form value : ℕ → ℕ → ℕ) (m w v h i p q s : ℕ) : Type 0 where
  pub powers : ArePowers form value m p q s
  pub first : Congruent m (value m p) (w ^ i)
  pub second : Congruent m (value m q) (w ^ (h + i))
  pub both : Congruent m (value m s) (v ^ i)

-- the next column
pub next_powers_are_column : {form value : ℕ → ℕ → ℕ} {width m w v h p q s p' q' s' : ℕ} (start i : ℕ)
    → IsCanonical form value width m → IsColumn form value m w v h (start + i) p q s
    → Represents form m p' ((value m p * w) % m) → Represents form m q' ((value m q * w) % m)
    → Represents form m s' ((value m s * v) % m) → IsColumn form value m w v h (start + (i + 1)) p' q' s'
next_powers_are_column {form} {value} {m = m} {w} {v} {h} {p' = p'} {q' = q'} {s' = s'} start i canonical is first
    second both =
    grind (
      arith,
      form_of_value canonical first,
      form_of_value canonical second,
      form_of_value canonical both,
      next_running_power_congruent w (start + i) canonical is.first first,
      next_running_power_congruent w (h + (start + i)) canonical is.second second,
      next_running_power_congruent v (start + i) canonical is.both both,
    )

-- one column more of a strip has its powers, which three lists hold
pub filled_more : {T : Type 0} (P : ℕ → T → T → T → Type 0) (firsts seconds boths : List T) (i : ℕ) (x y z : T)
    → i < length firsts → i < length seconds → i < length boths
    → ((k : ℕ) (d e f : T) → k < i → P k (get_or firsts k d) (get_or seconds k e) (get_or boths k f)) → P i x y z
    → (k : ℕ) (d e f : T) → k < i + 1
    → P k (get_or (set firsts i x) k d) (get_or (set seconds i y) k e) (get_or (set boths i z) k f)
filled_more P firsts seconds boths i x y z lx ly lz before is k d e f l = elim (cases_eq k i) [
  | inl s ↦
      let at = λ (c : List _) (u v : _) (w : i < length c). ap (λ j. get_or (set c i u) j v) s
      ∙ get_or-set_same c i u v w in
      grind (arith, at boths z f lz, at seconds y e ly, at firsts x d lx)
  | inr n ↦
      subst (λ q. P k (get_or (set firsts i x) k d) (get_or (set seconds i y) k e) q)
      (sym (get_or-set_other boths i k z f n)) (subst (λ q. P k (get_or (set firsts i x) k d) q (get_or boths k f))
      (sym (get_or-set_other seconds i k y e n)) (subst (λ q. P k q (get_or seconds k e) (get_or boths k f))
      (sym (get_or-set_other firsts i k x d n)) (before k d e f (omega arith))))
]
