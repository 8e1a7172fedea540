pub mod RunLemmas
pub mod Windows
