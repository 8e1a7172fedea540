use Rattle.std.proofs.Common.{◌≡◌, ℕ, ◌+◌, ◌*◌, ◌%◌, get_or, arith, ◌∙◌}
use Rattle.std.proofs.lemmas.List.{length-set}
use Rattle.num_modular.specs.Forms.{IsForm}
use Rattle.num_modular.specs.SystemLaws.{set_more}
use Rattle.residue_numbers.proofs.mixed_radix.runs.load_column.Goals as goal

pub registers-preserved : goal.registers-preserved
registers-preserved g c =
    let ring = g.R.Reducer in let m = ring.modulus c.args.reducer.now in
    let r : ℕ = c.registers.register in
    let before = c.registers.invariant in
    record {
      entries = length-set c.registers.forms r c.transform.result ∙ before.entries;
      each = set_more c.registers.forms r c.transform.result (λ r f. IsForm ring.form ring.value m f
          × (ring.value m f ≡ get_or c.args.words.now (r * c.args.count + c.args.place) 0 % m))
          (omega (arith, before.entries)) before.each (c.transform.ensures.checked, c.transform.ensures.value);
    }
