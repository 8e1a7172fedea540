mod Columns
mod Combinations
mod Encodings
mod MixedRadix
mod Runs
mod Signs
mod Words
