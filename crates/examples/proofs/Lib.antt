pub mod Coefficients
pub mod Jumps
