-- Sums and counts over a range of whole numbers (Graham, Knuth and Patashnik, "Concrete Mathematics", chapter 2).
use Rattle.std.specs.Prelude.{◌≡◌, ℕ, zero, suc, ◌+◌, ◌-◌, ◌*◌, ◌^◌, ◌<◌, ◌≤◌, Bool, if◌then◌else◌}

-- f 0 + f 1 + .. + f (n - 1)
unfoldable pub sum_below : ℕ → (ℕ → ℕ) → ℕ
sum_below zero f = 0
sum_below (suc n) f = sum_below n f + f n

-- the value at x of the polynomial with the coefficients c 0, .., c (n - 1), the constant first
-- (Knuth, The Art of Computer Programming, volume 2, section 4.6.4)
abbrev pub polynomial_at : ℕ → (ℕ → ℕ) → ℕ → ℕ
polynomial_at n c x = sum_below n (λ i. c i * x ^ i)

-- the same with the highest first, as in numerals and texts
abbrev pub polynomial_highest_first : ℕ → (ℕ → ℕ) → ℕ → ℕ
polynomial_highest_first n c x = sum_below n (λ i. c i * x ^ (n - 1 - i))

-- f 1 + f 2 + .. + f h
unfoldable pub sum_to : (ℕ → ℕ) → ℕ → ℕ
sum_to f zero = 0
sum_to f (suc h) = sum_to f h + f (suc h)

-- the number of those of 1, 2, .., h that pass a test
abbrev pub count_to : (ℕ → Bool) → ℕ → ℕ
count_to p h = sum_to (λ x. if p x then 1 else 0) h

-- f maps 1, .., h into itself, and different numbers to different ones
pub record Permutes (f : ℕ → ℕ) (h : ℕ) : Type 0 where
  pub positive : (x : ℕ) → 0 < x → x ≤ h → 0 < f x
  pub within : (x : ℕ) → 0 < x → x ≤ h → f x ≤ h
  pub apart : (x z : ℕ) → 0 < x → x ≤ h → 0 < z → z ≤ h → f x ≡ f z → x ≡ z
