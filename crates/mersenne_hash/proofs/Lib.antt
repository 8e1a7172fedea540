pub mod Concatenations
mod Counting
mod FalseHits
mod Lengths
pub mod Parts
pub mod Patterns
mod Primality
pub mod Written
