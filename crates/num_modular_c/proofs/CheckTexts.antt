-- A text has no more symbols than characters.
use Rattle.std.proofs.Common.{ℕ, ◌-◌, ◌≤◌, List, [], ◌∷◌, length, length-append, if◌then◌else◌, true, false, arith}
use Rattle.std.specs.Prelude.{nat_eq, nat_lt}
use Rattle.check_digits.specs.Texts.{symbol_of, symbols_of}

one_symbol : (c : ℕ) → length (symbol_of c) ≤ 1
one_symbol c =
    elim (nat_lt c 48) as (λ b. length (if b then [] else if nat_eq c 88 then 10 ∷ [] else (c - 48) ∷ []) ≤ 1) [
      | true ↦ omega arith
      | false ↦ elim (nat_eq c 88) as (λ b. length (if b then 10 ∷ [] else (c - 48) ∷ []) ≤ 1) [
        | true ↦ omega arith
        | false ↦ omega arith
      ]
    ]

pub few_symbols : (text : List ℕ) → length (symbols_of text) ≤ length text
few_symbols [] = omega arith
few_symbols (c ∷ cs) =
    let e = length-append (symbol_of c) (symbols_of cs) in
    let one = one_symbol c in
    let others = few_symbols cs in
    omega (arith, e, one, others)
