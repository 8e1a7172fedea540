pub mod Multiplier
pub mod ScaledHalves
pub mod ScaledLemmas
pub mod ScaledSums
