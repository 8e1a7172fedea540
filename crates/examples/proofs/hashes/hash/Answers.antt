use Rattle.std.proofs.Common.{◌∙◌, slice_index}
use Rattle.num_modular.specs.Remainders.{remainders}
use Rattle.examples.proofs.hashes.hash.Goals as goal

pub bytes-preserved : goal.bytes-preserved
bytes-preserved c =
    let more = c.range_laws.ensures.horner c.bytes.byte-index (slice_index c.args.bytes.now) c.args.x in
    record {
      modulus = c.add-value.ensures.modulus ∙ c.mul.ensures.modulus ∙ c.bytes.invariant.modulus;
      residue = simp (
        remainders,
        more,
        c.add-value.ensures.residue,
        c.mul.ensures.residue,
        c.bytes.invariant.modulus,
        c.bytes.invariant.residue,
        c.new-point.ensures.residue,
        c.from.ensures,
      );
    }
