pub mod Congruence
pub mod Division
pub mod Divisors
pub mod Inverses
pub mod Reciprocals
pub mod Reduction
pub mod Residues
pub mod Sums
