pub mod Differences
pub mod Divisions
pub use Rattle.modular_word.specs.Division
pub use Rattle.modular_word.specs.Inverses
pub use Rattle.modular_word.specs.Reciprocals
pub use Rattle.modular_word.specs.Residues
