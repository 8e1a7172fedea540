pub mod Blocks
pub mod Dsa
pub mod Kem
pub mod Remainders
