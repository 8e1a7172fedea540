pub mod Collisions
pub mod Occurrences
pub mod Patterns
