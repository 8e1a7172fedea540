pub mod Halvings
pub use Rattle.modular_prim.specs.Differences
pub use Rattle.modular_reduced.specs.Forms
pub use Rattle.modular_word.specs.Inverses
