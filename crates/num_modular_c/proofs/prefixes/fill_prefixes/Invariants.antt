use Rattle.std.proofs.Common.{◌≡◌, ℕ, ◌+◌, ◌%◌, ◌^◌, ◌≤◌, length, slice_index}
use Rattle.num_modular.specs.Integers.{residue_of}
use Rattle.num_modular.specs.Mersenne.{mersenne}
use Rattle.num_modular.specs.Sums.{polynomial_highest_first}
use Rattle.num_modular_c.proofs.prefixes.fill_prefixes.Given as goal

-- the hashes of the beginnings so far, and as many powers; the last of each
abbrev pub invariant-places : goal.invariant-places
invariant-places l =
    let p = mersenne 61 1 in let x = residue_of l.base in
    let hash : ℕ → ℕ = λ k. polynomial_highest_first k (slice_index l.text) x % p in
    record {
      value : residue_of l.value ≡ hash l.i;
      power : residue_of l.power ≡ x ^ l.i % p;
      hashed : (k : ℕ) → k ≤ l.i → slice_index l.hashes k ≡ hash k;
      entries : length l.hashes ≡ length l.text + 1;
      exponents : length l.powers ≡ length l.text + 1;
      raised : (k : ℕ) → k ≤ l.i → slice_index l.powers k ≡ x ^ k % p;
    }
