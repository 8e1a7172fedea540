use Rattle.ring_codes.proofs.Names.{◌≡◌, ◌-◌, ◌%◌, ◌<◌, ◌≤◌, ◌-ℤ◌, ℕ, All, length, HoldBelow, IsCheckedFormOf, IsForm}
use Rattle.ring_codes.proofs.Names.{entry, product_below, pos, residue, product_but}
use Rattle.ring_codes.proofs.erasure.prepared.fill_products.Given as goal

-- the products of the differences before each point so far
abbrev pub invariant-forward : goal.invariant-forward
invariant-forward g l =
    let ring = g.R.Reducer in let m = ring.modulus l.fn.r in let number = g.T.RingWord.number in
    let x = entry number ring.value m l.fn.points in let a = ring.value m (number l.fn.point) in
    HoldBelow number ring.form ring.value m l.products
    (λ i. product_below i (λ l. residue m (pos a -ℤ pos (x l))) % m) l.i
    × IsCheckedFormOf ring.form ring.value m (number l.before)
    (product_below l.i (λ l. residue m (pos a -ℤ pos (x l))) % m)

-- the last k products are done, the others are those of the differences before each point
abbrev pub invariant-backward : goal.invariant-backward
invariant-backward g l =
    let ring = g.R.Reducer in let m = ring.modulus l.fn.r in let number = g.T.RingWord.number in
    let x = entry number ring.value m l.fn.points in let a = ring.value m (number l.fn.point) in
    let n = length l.fn.points in
    All (λ f. IsForm ring.form ring.value m (number f)) l.products
    × ((i : ℕ) → i < n - l.k → entry number ring.value m l.products i
    ≡ product_below i (λ l. residue m (pos a -ℤ pos (x l))) % m)
    × ((i : ℕ) → n - l.k ≤ i → i < n → entry number ring.value m l.products i ≡ product_but m n x i a % m)
    × IsCheckedFormOf ring.form ring.value m (number l.after)
    (product_below l.k (λ l. residue m (pos a -ℤ pos (x (n - 1 - l)))) % m)
