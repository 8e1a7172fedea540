pub mod Combinations
pub mod MixedRadix
pub mod Registers
pub mod Signs
