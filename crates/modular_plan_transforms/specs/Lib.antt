pub mod PlanConditions
pub mod ProductConditions
pub mod Products
pub mod Tables
