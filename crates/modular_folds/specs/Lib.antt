pub mod Folds
pub mod Mersenne
pub mod MersenneLaws
pub mod Solinas
pub mod SolinasLaws
pub use Rattle.modular_reduced.specs.Forms
pub use Rattle.modular_reduced.specs.Plain
