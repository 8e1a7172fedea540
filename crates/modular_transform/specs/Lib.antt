pub mod Orders
pub mod Roots
pub mod Stages
pub mod Transforms
