-- A symbol fits an i8, and its negative too.
use Rattle.std.proofs.Common.{pos, ◌-ℤ◌, sym, ap, ◌∙◌, rules}
use Rattle.std.proofs.lemmas.Int.{to_z-of_z}
use Rattle.std.proofs.Math.IntN.{neg_ℤ, +ℤ_idl}
use Rattle.std.specs.Int.{w8}
use mir.Val.{to_z, of_z}
use Rattle.modular_symbols.specs.Kronecker.{signed}
use Rattle.modular_symbols.proofs.magnitudes.turned_symbol.Goals as goal

pub returns-then-turned-clause-value : goal.returns-then-turned-clause-value
returns-then-turned-clause-value c =
    ap (λ v. to_z w8 (of_z w8 (pos 0 -ℤ v))) (to_z-of_z w8 _ c.ranges.symbol)
    ∙ to_z-of_z w8 (pos 0 -ℤ c.args.symbol) (search rules) ∙ +ℤ_idl (neg_ℤ _)
    ∙ sym (ap (λ b. signed b c.args.symbol) c.if-turned.true)
