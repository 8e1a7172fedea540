pub mod ExponentSteps
pub mod HalvingSteps
pub mod Masks
