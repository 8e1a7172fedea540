-- Integers modulo m (Gauss, Disquisitiones Arithmeticae, articles 1 to 31).
use Rattle.std.specs.Prelude.{◌≡◌, ℕ, ◌+◌, ◌*◌, ◌%◌, ◌<◌, pos, ◌-ℤ◌, neg_ℤ}
use Rattle.modular_word.specs.Inverses.{HasInverse}
use Rattle.modular_word.specs.Residues.{residue}
use Rattle.modular_reduced.specs.declared.reduced_int.ReducedInt.{ReducedInt}

-- x is the integer of residue v modulo m; the two functions give the modulus and the residue of an integer
pub record IsInteger {I : Type 0} (its_modulus its_residue : I → ℕ) (m v : ℕ) (x : I) : Type 0 where
  pub modulus : its_modulus x ≡ m
  pub residue : its_residue x ≡ v

-- q is the quotient of v by w modulo m: the residue whose product with w is v
pub record IsModularQuotient (m v w q : ℕ) : Type 0 where
  pub below : q < m
  pub product : (q * w) % m ≡ v

-- the number of the form of a `ReducedInt`
abbrev pub form_of : {T R : Type 0} {word : _} {eq : _} {reducer : _} → ReducedInt T R word eq reducer → ℕ
form_of {word} x = word.number x.form

-- its modulus
abbrev pub modulus_of : {T R : Type 0} {word : _} {eq : _} {reducer : _} → ReducedInt T R word eq reducer → ℕ
modulus_of {reducer} x = reducer.modulus x.reducer

-- its residue: the value of its form
abbrev pub residue_of : {T R : Type 0} {word : _} {eq : _} {reducer : _} → ReducedInt T R word eq reducer → ℕ
residue_of {word} {reducer} x = reducer.value (reducer.modulus x.reducer) (word.number x.form)

-- x is the `ReducedInt` of residue v modulo m
abbrev pub IsReduced : {T R : Type 0} {word : _} {eq : _} {reducer : _} → ℕ → ℕ
    → ReducedInt T R word eq reducer → Type 0
IsReduced m v x = IsInteger modulus_of residue_of m v x

-- z is the sum of x and n
abbrev pub IsSum : {T R : Type 0} {word : _} {eq : _} {reducer : _} → ReducedInt T R word eq reducer → ℕ
    → ReducedInt T R word eq reducer → Type 0
IsSum x n z = IsReduced (modulus_of x) ((residue_of x + n) % modulus_of x) z

-- z is the difference of x and n
abbrev pub IsDifference : {T R : Type 0} {word : _} {eq : _} {reducer : _} → ReducedInt T R word eq reducer → ℕ
    → ReducedInt T R word eq reducer → Type 0
IsDifference x n z = IsReduced (modulus_of x) (residue (modulus_of x) (pos (residue_of x) -ℤ pos n)) z

-- z is the product of x and n
abbrev pub IsProduct : {T R : Type 0} {word : _} {eq : _} {reducer : _} → ReducedInt T R word eq reducer → ℕ
    → ReducedInt T R word eq reducer → Type 0
IsProduct x n z = IsReduced (modulus_of x) ((residue_of x * n) % modulus_of x) z

-- z is the negative of x
abbrev pub IsNegative : {T R : Type 0} {word : _} {eq : _} {reducer : _} → ReducedInt T R word eq reducer
    → ReducedInt T R word eq reducer → Type 0
IsNegative x z = IsReduced (modulus_of x) (residue (modulus_of x) (neg_ℤ (pos (residue_of x)))) z

-- x can be divided by y: the moduli are equal, and y has an inverse
abbrev pub CanDivide : {T R : Type 0} {word : _} {eq : _} {reducer : _} → ReducedInt T R word eq reducer
    → ReducedInt T R word eq reducer → Type 0
CanDivide x y = (modulus_of x ≡ modulus_of y) × HasInverse (modulus_of y) (residue_of y)

-- z is the quotient of x by y
abbrev pub IsQuotient : {T R : Type 0} {word : _} {eq : _} {reducer : _} → ReducedInt T R word eq reducer
    → ReducedInt T R word eq reducer → ReducedInt T R word eq reducer → Type 0
IsQuotient x y z =
    (modulus_of z ≡ modulus_of x) × IsModularQuotient (modulus_of x) (residue_of x) (residue_of y) (residue_of z)
