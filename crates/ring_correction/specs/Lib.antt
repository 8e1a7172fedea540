pub mod Correction
pub mod KeyAdvance
pub mod KeyEquations
