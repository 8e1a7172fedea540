-- What a four of two stages writes.
use Rattle.std.proofs.Common.{◌≡◌, ◌≢◌, ℕ, ◌+◌, ◌*◌, ◌%◌, ◌<◌, List, length, get_or, All, arith}
use Rattle.std.proofs.Math.ListN.{set, length-set}
use Rattle.modular_reduced.specs.Entries.{entry}
use Rattle.modular_reduced.specs.EntryLaws.{entry_kept, entry_read, entry_written}
use Rattle.modular_reduced.specs.Forms.{Represents, IsForm, IsCanonical}
use Rattle.modular_reduced.proofs.FormLemmas.{form_of_value}
use Rattle.modular_transform.specs.Stages.{IsPair, FourDone, weighted}
use Rattle.modular_transform.proofs.PairLemmas.{pair_by_equal_values}
use Rattle.modular_transform.proofs.ValueLemmas.{forms_written, sum_and_difference_are_pair}

-- the sum and the weighted difference of two forms are a pair of their values
pair_of_forms : {form value : ℕ → ℕ → ℕ} {width m power a b sum product : ℕ} → IsCanonical form value width m
    → IsForm form value m a → IsForm form value m b
    → Represents form m sum ((value m a + value m b) % m)
    → Represents form m product (weighted m power (value m a) (value m b))
    → IsPair m power (value m a) (value m b) (value m sum) (value m product)
pair_of_forms {form} {value} {width} {m} {power} {a} {b} canonical is_a is_b is_sum is_product =
    sum_and_difference_are_pair (value m a) (value m b) power _ _ is_a.below is_b.below (canonical.one_value _ _ is_sum)
    (canonical.one_value _ _ is_product)

-- four words written one step apart
pub record Written {T : Type 0} (number : T → ℕ) (value : ℕ → ℕ → ℕ) (m k step : ℕ) (old new : List T) (e f g h : T)
    : Type 0 where
  pub first : value m (number e) ≡ entry number value m new k
  pub second : value m (number f) ≡ entry number value m new (k + step)
  pub third : value m (number g) ≡ entry number value m new (k + 2 * step)
  pub fourth : value m (number h) ≡ entry number value m new (k + 3 * step)
  pub kept : (i : ℕ) → i ≢ k → i ≢ k + step → i ≢ k + 2 * step → i ≢ k + 3 * step
      → entry number value m new i ≡ entry number value m old i

all_written : {T : Type 0} (number : T → ℕ) (value : ℕ → ℕ → ℕ) (m k step : ℕ) (forms : List T) (e f g h : T)
    → 0 < step → k + 3 * step < length forms
    → Written number value m k step forms
    (set (set (set (set forms k e) (k + step) f) (k + 2 * step) g) (k + 3 * step) h) e f g h
all_written number value m k step forms e f g h some within = grind (arith, set, length-set, entry_written, entry_kept)

pub four_checked : {T : Type 0} (number : T → ℕ) (form value : ℕ → ℕ → ℕ) (width m : ℕ) (forms : List T) (k step : ℕ)
    (e f g h : T) {ve vf vg vh : ℕ} → IsCanonical form value width m → All (λ f. IsForm form value m (number f)) forms
    → Represents form m (number e) ve → Represents form m (number f) vf
    → Represents form m (number g) vg → Represents form m (number h) vh
    → All (λ f. IsForm form value m (number f))
    (set (set (set (set forms k e) (k + step) f) (k + 2 * step) g) (k + 3 * step) h)
four_checked number form value width m forms k step e f g h canonical all is_e is_f is_g is_h =
    let write = λ (xs : List _) (i : ℕ) (v : ℕ) (x : _) (is : Represents form m (number x) v)
    (l : All (λ f. IsForm form value m (number f)) xs). forms_written number form value width m xs i v x canonical is l
    in
    write _ (k + 3 * step) _ h is_h (write _ (k + 2 * step) _ g is_g
    (write _ (k + step) _ f is_f (write forms k _ e is_e all)))

pub two_stages_of_four_done : {T : Type 0} (number : T → ℕ) (form value : ℕ → ℕ → ℕ) (width m k step p q s : ℕ)
    (forms : List T)
    (a b c d left right left_turned right_turned e f g h : T)
    → IsCanonical form value width m → All (λ f. IsForm form value m (number f)) forms
    → 0 < step → k + 3 * step < length forms
    → a ≡ get_or forms k a → b ≡ get_or forms (k + step) b
    → c ≡ get_or forms (k + 2 * step) c → d ≡ get_or forms (k + 3 * step) d
    → Represents form m (number left) ((value m (number a) + value m (number c)) % m)
    → Represents form m (number right) ((value m (number b) + value m (number d)) % m)
    → Represents form m (number left_turned) (weighted m p (value m (number a)) (value m (number c)))
    → Represents form m (number right_turned) (weighted m q (value m (number b)) (value m (number d)))
    → Represents form m (number e) ((value m (number left) + value m (number right)) % m)
    → Represents form m (number f) (weighted m s (value m (number left)) (value m (number right)))
    → Represents form m (number g) ((value m (number left_turned) + value m (number right_turned)) % m)
    → Represents form m (number h) (weighted m s (value m (number left_turned)) (value m (number right_turned)))
    → FourDone m p q s step k (entry number value m forms) (entry number value m
    (set (set (set (set forms k e) (k + step) f) (k + 2 * step) g) (k + 3 * step) h))
two_stages_of_four_done {T} number form value width m k step p q s forms a b c d left right left_turned right_turned e f
    g h
    canonical all some within read_a read_b read_c read_d is_left is_right is_lt is_rt is_e is_f is_g is_h =
    let x = entry number value m forms in
    let va : value m (number a) ≡ x k = entry_read number value m forms k a (omega arith) read_a in
    let vb : value m (number b) ≡ x (k + step) =
    entry_read number value m forms (k + step) b (omega arith) read_b in
    let vc : value m (number c) ≡ x (k + 2 * step) =
    entry_read number value m forms (k + 2 * step) c (omega arith) read_c in
    let vd : value m (number d) ≡ x (k + 3 * step) =
    entry_read number value m forms (k + 3 * step) d (omega arith) read_d in
    let w = all_written number value m k step forms e f g h some within in
    let sums = pair_of_forms {power = s} canonical (form_of_value canonical is_left)
    (form_of_value canonical is_right) is_e is_f in
    let differences = pair_of_forms {power = s} canonical (form_of_value canonical is_lt)
    (form_of_value canonical is_rt) is_g is_h in
    grind (arith, pair_by_equal_values, w.kept)
