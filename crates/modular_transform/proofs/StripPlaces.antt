-- Offsets in bytes of the powers of a strip.
use Rattle.std.proofs.Common.{◌≡◌, ℕ, ◌-◌, ◌*◌, ◌^◌, ◌<◌, min, arith}
use Rattle.modular_transform.proofs.FourLemmas.{block_places_within_length}
use borrow.Author.Rules.{scaled_Fits}
use mir.Syntax.{w64}
use mir.Val.{Fits}

-- an entry of a strip's powers lies no farther than one of the list
pub strip_offset : (size column step : ℕ) {i width blocks n : ℕ} → i < width → width ≡ min 64 (step - column)
    → blocks * (4 * step) ≡ n → 0 < blocks → n * size < 2 ^ 63 → Fits w64 (i * size)
strip_offset size column step {i} {width} {blocks} {n} within least whole some room =
    scaled_Fits i n size (omega (arith, within, least, block_places_within_length 0 blocks step n some whole)) room
