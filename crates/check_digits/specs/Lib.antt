pub mod Codes
pub mod Damm
pub mod Ibans
pub mod Luhn
pub mod Standards
pub mod States
pub mod Texts
pub mod Verhoeff
