pub mod Erasure
pub mod Newton
pub mod Powers
pub mod Prepared
pub mod Roots
pub mod Secrets
pub mod Shifts
