pub mod Factors
pub mod JoinPasses
pub mod Joins
pub mod Plans
pub mod Splits
pub mod Steps
