pub mod Corrector
pub mod ErrorPatterns
pub mod LocatorSteps
pub mod Locators
pub mod PowerSums
pub mod Products
pub mod Syndromes
