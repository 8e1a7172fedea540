-- Products over a range of whole numbers (Graham, Knuth and Patashnik, "Concrete Mathematics", section 2.1).
use Rattle.std.specs.Prelude.{ℕ, zero, suc, ◌*◌}

-- f 0 * f 1 * .. * f (n - 1)
unfoldable pub product_below : ℕ → (ℕ → ℕ) → ℕ
product_below zero f = 1
product_below (suc n) f = product_below n f * f n
