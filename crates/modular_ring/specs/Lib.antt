pub mod Hashes
pub mod ProductLaws
pub mod Products
pub mod Ring
pub mod RunSteps
pub mod SystemLaws
pub mod Systems
