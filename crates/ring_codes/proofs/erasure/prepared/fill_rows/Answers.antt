use Rattle.ring_codes.proofs.Names.{◌≡◌, ◌+◌, ◌*◌, ◌/◌, ◌%◌, ◌≤◌, ◌∙◌, ℕ, sym, arith, length, refl, entry, entry_at}
use Rattle.ring_codes.proofs.Names.{entry_read, hold_more, held_forms, held_entry, mul-le-mul_right, mod-mul-add}
use Rattle.ring_codes.proofs.Names.{div-mul-add, product_but}
use borrow.Author.Rules.{scaled_Fits}
use Rattle.ring_codes.proofs.Lagrange.{row_index_below_size}
use Rattle.ring_codes.proofs.erasure.prepared.fill_rows.Goals as goal

pub offset_bounds-rows-next : goal.offset_bounds-rows-next
offset_bounds-rows-next g c =
    let inside = row_index_below_size _ _ _ _ c.wanted-test.true c.known-test.true in
    scaled_Fits _ _ _ (omega (arith, inside, c.known.invariant.0, c.requires.count)) c.well_formed.1.1.1.1.1.0.1

pub known-preserved : goal.known-preserved
known-preserved g c =
    let ring = g.R.Reducer in let m = ring.modulus c.args.r.now in let number = g.T.RingWord.number in
    let known = c.args.known.now in let x = entry number ring.value m known in
    let y = entry number ring.value m c.args.wanted.now in let w = entry number ring.value m c.args.weights.now in
    let k : ℕ = length known in let j = c.wanted.j in let i = c.known.i in let next = c.known.next in
    let v : ℕ → ℕ = λ e. (product_but m k x (e % k) (y (e / k)) % m * w (e % k)) % m in
    let so_far = c.known.invariant.1 in let at = c.known.invariant.0 in
    let column : next % k ≡ i = rw at (mod-mul-add j k i c.known-test.true) in
    let row : next / k ≡ j = rw at (div-mul-add j k i c.known-test.true) in
    let point = entry_read number ring.value m c.args.wanted.now j _ c.wanted-test.true c.index-wanted-j.is in
    let product = entry_at number ring.value m c.fill_products.new.products i c.index-products-i.result (omega arith) in
    let weight = entry_read number ring.value m c.args.weights.now i _ (omega arith) c.index-weights-i.is in
    let here : v next ≡ (product_but m k x i (y j) % m * w i) % m = rw (column, row) refl in
    let value =
    rw (product, c.fill_products.ensures.values i c.known-test.true, point, weight) at c.mul.ensures.value in
    let inside = row_index_below_size j (length c.args.wanted.now) k i c.wanted-test.true c.known-test.true in (
      omega (arith, at),
      hold_more number ring.form ring.value m c.known.rows next c.mul.result v
          (omega (arith, inside, at, c.requires.count)) so_far c.mul.ensures.checked (value ∙ sym here),
    )

pub returns-clause-values : goal.returns-clause-values
returns-clause-values g c j i l b =
    let ring = g.R.Reducer in let m = ring.modulus c.args.r.now in let number = g.T.RingWord.number in
    let known = c.args.known.now in let x = entry number ring.value m known in
    let y = entry number ring.value m c.args.wanted.now in let w = entry number ring.value m c.args.weights.now in
    let k : ℕ = length known in let n : ℕ = length c.args.wanted.now in
    let v : ℕ → ℕ = λ e. (product_but m k x (e % k) (y (e / k)) % m * w (e % k)) % m in
    let inside = row_index_below_size j n k i l b in
    let all : n * k ≤ c.wanted.j * k = mul-le-mul_right k c.wanted-test.false in
    let at = c.wanted.invariant.0 in
    held_entry number ring.form ring.value m c.wanted.rows v c.wanted.next (j * k + i) c.wanted.invariant.1
    (omega (arith, inside, all, at)) (omega (arith, inside, c.wanted.auto.rows, c.requires.count))
    ∙ rw (mod-mul-add j k i b, div-mul-add j k i b) refl

pub returns-clause-checked : goal.returns-clause-checked
returns-clause-checked g c = grind (arith, mul-le-mul_right, held_forms)
