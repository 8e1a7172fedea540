-- What is precomputed of a divisor or a modulus, in words of 64 bits. The names are the library's own words.
use Rattle.std.specs.Prelude.{◌≡◌, ℕ, ◌*◌, ◌^◌}
use Rattle.std.specs.Int.Count.{count_leading_zeros}
use Rattle.num_modular.specs.Forms.{IsForm}
use Rattle.num_modular.specs.Reciprocals.{IsReciprocal}
use Rattle.num_modular.specs.TwoParts.{IsComputedOnce, two_part_form, two_part_value}
use Rattle.num_modular_c.specs.declared.codes.TheConstants.{NM_BAD_ARGUMENT, NM_BAD_CONTEXT}
use Rattle.num_modular_c.specs.declared.dividers.NmDivider.{NmDivider}
use Rattle.num_modular_c.specs.declared.montgomery.NmMontgomery.{NmMontgomery}

-- the reciprocal is that of the divisor, shifted left until its top bit is set
abbrev pub IsDivider : NmDivider → Type 0
IsDivider divider =
    IsReciprocal (2 ^ 64) (divider.divisor * 2 ^ count_leading_zeros 64 divider.divisor) divider.reciprocal

-- the two numbers are those that are precomputed of the modulus
abbrev pub IsMontgomery : NmMontgomery → Type 0
IsMontgomery context = IsComputedOnce 64 (2 ^ 64) context.modulus context.negated_inverse context.square

-- f is a form modulo m
abbrev pub IsMontgomeryForm : ℕ → ℕ → Type 0
IsMontgomeryForm m f = IsForm (two_part_form 64) (two_part_value 64) m f

-- the code says what is wrong with a context, or with words that don't fit it
abbrev pub IsContextFault : NmMontgomery → Type 0 → ℕ → Type 0
IsContextFault context fit code = (IsMontgomery context → fit → ⊥) × (IsMontgomery context → code ≡ NM_BAD_ARGUMENT)
    × ((IsMontgomery context → ⊥) → code ≡ NM_BAD_CONTEXT)

-- the value of the form f modulo m
abbrev pub value_of : ℕ → ℕ → ℕ
value_of m f = two_part_value 64 m f

-- f is the form of v modulo m
abbrev pub IsMontgomeryFormOf : ℕ → ℕ → ℕ → Type 0
IsMontgomeryFormOf m f v = IsMontgomeryForm m f × (value_of m f ≡ v)
