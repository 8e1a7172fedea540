-- Transforms and cyclic products of lists that agree at each place.
use Rattle.std.proofs.Common.{◌≡◌, ℕ, ◌+◌, ◌*◌, ◌%◌, ◌^◌, ◌<◌, ◌==◌, ◌||◌, if◌then◌else◌, ap, ap₂}
use Rattle.modular_word.proofs.Sums.{sum_below-same}
use Rattle.num_modular.specs.Transforms.{transform, cyclic_product}

pub same_transform : (m j : ℕ) {g h k n : ℕ} {x y : ℕ → ℕ} → g ≡ h → k ≡ n → ((i : ℕ) → i < n → x i ≡ y i)
    → transform m g k x j ≡ transform m h n y j
same_transform m j {h = h} {n = n} eg ek same =
    rw (eg, ek) (ap (λ s. s % m) (sum_below-same n _ _ (λ i l. ap (λ v. v * h ^ (i * j)) (same i l))))

pub cyclic_product_same : (m e : ℕ) {k n : ℕ} {x y u v : ℕ → ℕ} → k ≡ n → ((i : ℕ) → i < n → x i ≡ u i)
    → ((j : ℕ) → j < n → y j ≡ v j)
    → cyclic_product m k x y e ≡ cyclic_product m n u v e
cyclic_product_same m e {n = n} ek left right =
    rw ek (ap (λ s. s % m) (sum_below-same n _ _ (λ i l. sum_below-same n _ _ (λ j l'.
    ap₂ (λ a b. if (i + j == e) || (i + j == e + n) then a * b else 0) (left i l) (right j l')))))
