pub mod KeyPairs
pub mod NearPairs
