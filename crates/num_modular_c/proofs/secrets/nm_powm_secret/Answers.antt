use Rattle.std.proofs.Common.{◌%◌, ◌^◌, ◌∙◌, ap, refl}
use Rattle.std.proofs.lemmas.Nat.{pow-mod}
use Rattle.num_modular_c.proofs.secrets.nm_powm_secret.Goals as goal

pub returns-clause-did : goal.returns-clause-did
returns-clause-did c some most fits =
    let form = rw c.new-ring.ensures at c.transform.ensures.value in
    let power = rw c.new-ring.ensures at c.pow_secret-form.ensures.value in
    let value = rw c.new-ring.ensures at c.residue.ensures.value in (
      refl,
      value ∙ power ∙ ap (λ v. v ^ c.args.exponent % c.args.m) form ∙ pow-mod c.args.a c.args.exponent c.args.m,
    )
