use Rattle.std.proofs.Common.{◌≡◌, ℕ, ◌-◌, ◌%◌, ◌<◌, ◌≤◌}
use Rattle.modular_reduced.specs.Forms.{IsForm}
use Rattle.modular_transform.specs.Transforms.{Suits}
use Rattle.modular_transform.specs.Roots.{root_by}
use Rattle.modular_transform.proofs.roots.find_root.Given as goal

-- the numbers from 2 to x - 1 are tried
abbrev pub invariant-bases : goal.invariant-bases
invariant-bases g l =
    let m = g.R.Reducer.modulus l.r in
    let number = g.T.RingWord.number in
    let value = g.R.Reducer.value in
    record {
      form : IsForm g.R.Reducer.form value m (number l.base);
      base : value m (number l.base) ≡ (l._x - 1) % m;
      tried : (y : ℕ) → 2 ≤ y → y < l._x → Suits m (root_by m l.n y) l.n → ⊥;
    }
