pub mod Derivatives
pub mod ErasedPlaces
pub mod RestoredWords
